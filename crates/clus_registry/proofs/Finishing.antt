-- What a state's build comes to.
use Rattle.std.proofs.Common.{◌≡◌, ℕ, ◌+◌, ◌≤◌, List, [], length, Option, Some, None, Result, Ok, Err, inl, inr, sym, ap, subst, ◌∙◌, arith}
use Rattle.std.proofs.lemmas.List.{append-nil}
use Rattle.registry_defs.specs.Keys.{Keys}
use Rattle.registry_defs.specs.Limits.{IsRegistry}
use Rattle.registry_defs.specs.Nodes.{Node, keys_of}
use Rattle.registry_defs.specs.Sizes.{size}
use Rattle.registry_defs.specs.Spelling.{registry_text}
use Rattle.registry_defs.specs.StateFields.{Stop}
use Rattle.registry_defs.specs.StateGrammar.{state_of}
use Rattle.registry_defs.proofs.Lengths.{length-registry}
use Rattle.registry_states.specs.Builds.{IsAtFault, KeepsFault, Kept}
use Rattle.registry_states.specs.States.{Decodes, IsFaultAt}
use Rattle.registry_states.specs.StateLaws.{IsStateOf}
use Rattle.registry_states.specs.declared.fault.StateFault.{StateFault}
use Rattle.registry_states.specs.declared.fault.StateFault.TheVariants.{Bad, Memory}
use Rattle.registry_states.proofs.FoundStates.{state_found}
use Rattle.registry_states.proofs.OnlyNodes.{spelled_is_read}
use Rattle.clus_registry.specs.Builds.{Feeds, IsFed}
use Rattle.clus_registry.specs.States.{FailsOn, GivesKeys, IsReadFrom}
use Rattle.registry_defs.proofs.Held.{contents, entries_are}

-- ---- bytes at fault

first_fault : (cap place : ℕ) (bytes : List ℕ) → IsAtFault cap bytes place → IsFaultAt place (state_of cap bytes)
first_fault cap place bytes (inl bad) = inl bad
first_fault cap place bytes (inr (long, cut)) = inr cut

no_root : (place : ℕ) (read : Result Node Stop) (root : Node) → read ≡ Ok root → IsFaultAt place read → ⊥
no_root place read root is (inl bad) = absurd cc
no_root place read root is (inr cut) = absurd cc

pub fails : (cap : ℕ) (bytes : List ℕ) (fault : StateFault) → Decodes (Err fault) (state_of cap bytes) → FailsOn cap bytes fault
fails cap bytes (Bad place) h = h
fails cap bytes Memory h = tt

pub refuses : (now : Kept) (cap : ℕ) (bytes : List ℕ) (fault : StateFault) → now.cap ≡ cap → Feeds {T = Unit {0}} (Err fault) now [] bytes → FailsOn cap bytes fault
refuses now cap bytes (Bad place) same h = first_fault cap place bytes (subst (λ (cap : ℕ). IsAtFault cap bytes place) same h.1)
refuses now cap bytes Memory same h = tt

-- ---- the registry

module _ (kept : Kept) (root : Node) (stream : List ℕ) (fed : IsFed kept stream) (read : state_of kept.cap stream ≡ Ok root) where
  counted_in : (fault : Option ℕ) → KeepsFault fault kept stream → length stream ≡ kept.place.taken + length kept.place.pending
  counted_in None stands = stands.counted
  counted_in (Some place) at =
      let here : IsAtFault kept.cap stream place = subst (λ (bytes : List ℕ). IsAtFault kept.cap bytes place) (append-nil stream) (at []) in
      absurd (no_root place (state_of kept.cap stream) root read (first_fault kept.cap place stream here))

  pub is_state : IsStateOf kept.cap stream root
  is_state = state_found kept.cap stream root fed.0 read

  pub counted : kept.place.taken + length kept.place.pending ≡ size (keys_of root)
  counted = sym (counted_in kept.fault fed.1) ∙ ap length is_state.text ∙ length-registry (keys_of root)

  pub fits : size (keys_of root) ≤ kept.cap
  fits = omega (arith, is_state.fits, ap length is_state.text, length-registry (keys_of root))

  pub is_read : (cap : ℕ) → cap ≡ kept.cap → IsReadFrom kept.cap stream (contents cap (keys_of root))
  is_read cap same =
      let entries = sym (entries_are (keys_of root) is_state.registry) in
      record {
        same_cap = same;
        limits = subst IsRegistry entries is_state.registry;
        text = is_state.text ∙ ap registry_text entries;
        fits = subst (λ (keys : Keys). size keys ≤ kept.cap) entries fits;
      }

-- ---- its keys

module _ (cap : ℕ) (stream : List ℕ) (keys : Keys) (most : cap ≤ 16777216) (is : IsRegistry keys) (fits : size keys ≤ cap) (text : stream ≡ registry_text keys) where
  read_as : (root : Node) × (keys_of root ≡ keys) × (state_of cap stream ≡ Ok root)
  read_as = let read = spelled_is_read cap keys most is fits in (read.0, read.1, ap (state_of cap) text ∙ read.2)

  pub same_keys : (root : Node) → state_of cap stream ≡ Ok root → keys_of root ≡ keys
  same_keys root read =
      let spelled = read_as in
      let other = spelled.2 in
      let same : root ≡ spelled.0 = cc in
      ap keys_of same ∙ spelled.1

  pub no_fault : (fault : StateFault) → FailsOn cap stream fault → GivesKeys (Err fault) keys
  no_fault (Bad place) h = no_root place (state_of cap stream) read_as.0 read_as.2 h
  no_fault Memory h = tt
