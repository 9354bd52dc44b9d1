use Rattle.std.proofs.Common.{arith, ap, refl, ◌∙◌, ◌≡◌, length}
use Rattle.rpc_pdu.proofs.Answered.{ack_spells, fault_spells, nak_spells}
use Rattle.rpc_pdu.proofs.tests.answers_are_written.Goals as goal

pub encode-requires : goal.encode-requires
encode-requires g c =
    let address : length c.new-2.result ≡ 0 = ap length c.new-2.ensures ∙ ap length c.new.ensures.items in
    let verdicts : length c.new-3.result ≡ 1 = ap length c.new-3.ensures ∙ ap length c.in_ok-verdicts.ensures.items in
    ack_spells c.little.result 5840 5840 1 c.new-2.result c.new-3.result (omega (arith, c.little.ensures.minor)) (rw c.little.ensures.flags refl) (omega arith) (omega arith)

pub encode-requires-2 : goal.encode-requires-2
encode-requires-2 g c =
    let versions : length c.new-4.result ≡ 1 = ap length c.new-4.ensures ∙ ap length c.in_ok-vec.ensures.items in
    nak_spells c.little-2.result 0 c.new-4.result (omega (arith, c.little-2.ensures.minor)) (rw c.little-2.ensures.flags refl) (omega arith)

pub encode-requires-3 : goal.encode-requires-3
encode-requires-3 g c = fault_spells c.little-3.result 0 0 0 469827586 (omega (arith, c.little-3.ensures.minor))
