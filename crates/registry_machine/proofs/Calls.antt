-- What the calls on a registry make is what the machine makes.
use Rattle.std.proofs.Common.{◌≡◌, ℕ, Result, Some, None, sym, ap, ◌∙◌, inl, inr}
use Rattle.registry_defs.specs.Contents.{keys_in}
use Rattle.registry_defs.specs.Nodes.{Node}
use Rattle.registry_defs.specs.StateFields.{Stop}
use Rattle.registry_defs.specs.StateGrammar.{state_of}
use Rattle.registry_states.specs.States.{IsFaultAt}
use Rattle.registry_machine.specs.Machine.{record_applied, registry_below, registry_decoded}
use Rattle.registry_machine.specs.Laws.{AppliesAsMachine, BeginsAsMachine, EncodesAsMachine, ReadsAsMachine, FailsAsMachine}
use Rattle.registry_machine.proofs.Instance.{encoded_is_decoded}

pub begins_as_machine : BeginsAsMachine
begins_as_machine cap registry caps keys = λ i. record { cap = caps i; keys = keys i }

pub encodes_as_machine : EncodesAsMachine
encodes_as_machine registry bytes is = is

pub applies_as_machine : AppliesAsMachine
unfolding record_applied
applies_as_machine before now e outcome is =
    let caps = is.2 in
    let keys = is.1 in
    λ i. (record { cap = sym caps i; keys = sym keys i }, sym is.0 i)

pub reads_as_machine : ReadsAsMachine
reads_as_machine cap bytes registry is read =
    ap (registry_decoded cap) read.text
    ∙ encoded_is_decoded cap (keys_in registry) is.1 (record { limits = read.limits; fits = read.fits })
    ∙ ap (λ n. Some (record { cap = n; keys = keys_in registry })) (sym read.same_cap)

none_below : (cap place : ℕ) (read : Result Node Stop) → IsFaultAt place read → registry_below cap read ≡ None
none_below cap place read (inl is) = ap (registry_below cap) is
none_below cap place read (inr is) = ap (registry_below cap) is

pub fails_as_machine : FailsAsMachine
unfolding registry_decoded
fails_as_machine cap bytes place fails = none_below cap place (state_of cap bytes) fails
