-- Each word of a rule for the interval is 1.
use Rattle.std.proofs.Common.{◌≡◌, ℕ, List, [], ◌∷◌, Bool, true, false, not, ◌&&◌, cond, Option, None, Some, inl, inr, refl, sym, ap, ◌∙◌, codes}
use Rattle.std.specs.Prelude.{option_and_then}
use Rattle.std.specs.List.{Contains}
use Rattle.std.specs.Option.{option_map}
use Rattle.std.specs.Str.{bytes_eq}
use Rattle.std.proofs.lemmas.Slice.Eq.{bytes_eq-Decides}
use Rattle.vtimezone.specs.Cutting.{cut_at}
use Rattle.vtimezone_reader.specs.ContentLines.{is_word}
use Rattle.vtimezone_reader.specs.Pieces.{after, before}
use Rattle.vtimezone_reader.specs.RuleWords.{no_words, once_if, recur_in, recur_of, word_if, word_read, words_read}
use Rattle.vtimezone_reader.specs.declared.rule_words.Recur.{Recur}
use Rattle.vtimezone_reader.specs.declared.rule_words.Words.{Words}
use Rattle.zone_meaning.proofs.lemmas.Members.{member_cases, no_member}
use Rattle.reader_laws.specs.Words.{HasWords}
use Rattle.reader_laws.proofs.Tests.{other_word}

-- the first of two steps gave something
record IsBound {A B : Type 0} (o : Option A) (f : A → Option B) (b : B) : Type 0 where
  value : A
  first : o ≡ Some value
  second : f value ≡ Some b

bound : {A B : Type 0} (o : Option A) (f : A → Option B) (b : B) → option_and_then f o ≡ Some b → IsBound o f b
bound None f b e = absurd cc
bound (Some x) f b e = record { value = x; first = refl; second = e }

mapped : {A B : Type 0} (o : Option A) (f : A → B) (b : B) → option_map f o ≡ Some b → (a : A) × (o ≡ Some a)
mapped None f b e = absurd cc
mapped (Some x) f b e = (x, refl)

given_once : (test known : Bool) (b : Bool) → cond (not known && test) (Some true) None ≡ Some b → test ≡ true
given_once true known b e = refl
given_once false true b e = absurd cc
given_once false false b e = absurd cc

-- the value of a word for the interval
interval_is : (w now : Words) (name value : List ℕ) → is_word name (codes "INTERVAL") ≡ true → word_read w name value ≡ Some now → value ≡ codes "1"
unfolding word_read
interval_is w now name value is e =
    let no : is_word name (codes "FREQ") ≡ false = other_word name (codes "INTERVAL") (codes "FREQ") refl is in
    let read : option_map (λ (b : Bool). record w { interval = b }) (once_if w.interval (bytes_eq value (codes "1"))) ≡ Some now = rw (no, is) at e in
    let found = mapped (once_if w.interval (bytes_eq value (codes "1"))) (λ (b : Bool). record w { interval = b }) now read in
    (bytes_eq-Decides value (codes "1")).0 (given_once (bytes_eq value (codes "1")) w.interval found.0 found.1)

word_is : (w now : Words) (name : List ℕ) (o : Option (List ℕ)) → is_word name (codes "INTERVAL") ≡ true → word_if w name o ≡ Some now → o ≡ Some (codes "1")
word_is w now name None is e = absurd cc
word_is w now name (Some value) is e = ap Some (interval_is w now name value is e)

each_word : (w last : Words) (ts : List (List ℕ)) (word : List ℕ) → words_read w ts ≡ Some last → Contains ts word
    → is_word (before 61 word) (codes "INTERVAL") ≡ true → after 61 word ≡ Some (codes "1")
unfolding words_read
each_word w last [] word e there is = absurd (no_member word there)
each_word w last (t ∷ ts) word e there is =
    let step = bound (word_if w (before 61 t) (after 61 t)) (λ (now : Words). words_read now ts) last e in
    elim (member_cases t word ts there) [
      | inl same ↦
          let here : is_word (before 61 t) (codes "INTERVAL") ≡ true = ap (λ (x : List ℕ). is_word (before 61 x) (codes "INTERVAL")) same ∙ is in
          ap (after 61) (sym same) ∙ word_is w step.value (before 61 t) (after 61 t) here step.first
      | inr later ↦ each_word step.value last ts word step.second later is
    ]

pub words_are : (text : List ℕ) (r : Recur) → recur_in text ≡ Some r → HasWords text
unfolding recur_in
words_are text r e =
    let read = bound (words_read no_words (cut_at 59 text)) recur_of r e in
    record { interval = λ word there is. each_word no_words read.value (cut_at 59 text) word read.first there is }
