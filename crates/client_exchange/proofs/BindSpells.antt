-- The bind has an encoding.
use Rattle.std.proofs.Common.{◌≡◌, ℕ, ◌+◌, ◌<◌, ◌≤◌, List, [], ◌∷◌, ◌++◌, length, refl, arith, length-append}
use Rattle.std.specs.List.{flat_map}
use Rattle.wire_fields.specs.declared.endian.Endian.TheVariants.{Little}
use Rattle.wire_fields.specs.Numbers.{num, uuid_text}
use Rattle.rpc_pdu.specs.Encoding.{CanSpell, bind_text, body_text, proposal_text, syntax_text}
use Rattle.rpc_assoc.specs.Verdicts.{clusapi, ndr}
use Rattle.client_exchange.specs.Requests.{bind}

body_size : 16 + length (body_text bind) ≤ 65535
unfolding bind_text proposal_text syntax_text num uuid_text clusapi ndr
body_size = omega arith

pub bind_spells : CanSpell bind
bind_spells = record { minor = omega arith; flags = refl; object = tt; counts = (omega arith, (omega arith, tt)); size = body_size }
