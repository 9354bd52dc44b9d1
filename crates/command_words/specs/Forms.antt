-- The words of each form, its numbers still texts.
use Rattle.std.specs.Prelude.{◌≡◌, ℕ, List, [], ◌∷◌, Option, Some, None, codes, option_map, slice_index}
use Rattle.std.specs.Borrow.{Bor}
use Rattle.std.specs.List.{All}
use Rattle.command_words.specs.declared.form.Form.{Form}
use Rattle.command_words.specs.declared.form.Form.TheVariants as variants

pub data Texts : Type 0 where
  session : Option (List ℕ) → Texts
  serve : List ℕ → List ℕ → Option (List ℕ) → Texts
  replay : Texts
  drill : List ℕ → List ℕ → Texts
  format : List ℕ → Texts
  showlog : Texts
  export : Texts
  ask : List ℕ → Texts

abbrev pub words_of : Texts → List (List ℕ)
words_of (session None) = codes "session" ∷ []
words_of (session (Some stamp)) = codes "session" ∷ stamp ∷ []
words_of (serve address count None) = codes "serve" ∷ address ∷ count ∷ []
words_of (serve address count (Some stamp)) = codes "serve" ∷ address ∷ count ∷ stamp ∷ []
words_of replay = codes "replay" ∷ []
words_of (drill number events) = codes "drill" ∷ number ∷ events ∷ []
words_of (format cap) = codes "format" ∷ cap ∷ []
words_of showlog = codes "showlog" ∷ []
words_of export = codes "export" ∷ []
words_of (ask address) = codes "ask" ∷ address ∷ []

-- The word doesn't begin with `-`.
abbrev pub IsPlain : List ℕ → Type 0
IsPlain word = ¬ (slice_index word 0 ≡ 45)

pub record HasForm (words : List (List ℕ)) (texts : Texts) : Type 0 where
  pub same : words ≡ words_of texts
  pub plain : All IsPlain words

abbrev pub text_in : Option (Bor (List ℕ)) → Option (List ℕ)
text_in = option_map (λ w. w.now)

abbrev pub texts_of : Form → Texts
texts_of (variants.Session stamp) = session (text_in stamp)
texts_of (variants.Serve address count stamp) = serve address.now count.now (text_in stamp)
texts_of variants.Replay = replay
texts_of (variants.Drill number events) = drill number.now events.now
texts_of (variants.Format cap) = format cap.now
texts_of variants.Showlog = showlog
texts_of variants.Export = export
texts_of (variants.Ask address) = ask address.now
