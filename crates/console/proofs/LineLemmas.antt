-- The lines of a list, by what has come of the first.
use Rattle.std.proofs.Common.{cond, ◌≡◌, ◌<◌, ◌≤◌, ℕ, ◌⊎◌, inl, inr, Bool, true, false, not, ◌&&◌, ◌||◌, List, [], ◌∷◌, ◌++◌, length, take, drop}
use Rattle.std.proofs.Common.{map, nat_le, Option, None, Some, refl, sym, ap, ◌∙◌, arith, append_assoc, length-append, take-append-drop}
use Rattle.std.specs.List.{before_first, after_first, list_all, flat_map}
use Rattle.std.specs.Option.{option_map_or}
use Rattle.std.proofs.lemmas.Bool.{cases_Bool}
use Rattle.std.proofs.lemmas.Bool.Decides.{nat_tests}
use Rattle.std.proofs.lemmas.List.{append-nil, length-take, take_all}
use Rattle.std.proofs.lemmas.List.Folds.{list_any-append}
use Rattle.console.proofs.PlaceLemmas.{before_here, after_here, before_later, after_later}
use Rattle.console.specs.declared.line.Line.{Line}
use Rattle.console.specs.declared.line.Line.TheVariants as line
use Rattle.console.specs.declared.line.TheConstants.{MOST_BYTES}
use Rattle.console.specs.Steps.{most_held}
use Rattle.td_base.specs.Names.{is_path_word}
use Rattle.console.specs.Lines.{without_return, install_of, words_of, asked_in, is_feed_byte, has_feed}
use Rattle.console.specs.Lines.{is_whole_text, ended_lines, line_of, lines_from, lines_of}

pub lines_none : (begun : List ℕ) → lines_from begun [] ≡ []
unfolding lines_from
lines_none begun = refl

lines_feed : (begun : List ℕ) (b : ℕ) (bs : List ℕ) → is_feed_byte b ≡ true → lines_from begun (b ∷ bs) ≡ line_of begun ∷ lines_from [] bs
unfolding lines_from
lines_feed begun b bs e = rw e

lines_within : (begun : List ℕ) (b : ℕ) (bs : List ℕ) → is_feed_byte b ≡ false → lines_from begun (b ∷ bs) ≡ lines_from (begun ++ b ∷ []) bs
unfolding lines_from
lines_within begun b bs e = rw e

neither : (a b : Bool) → (a || b) ≡ false → (a ≡ false) × (b ≡ false)
neither false b e = (refl, e)
neither true b e = (e, absurd (cc e))

-- where no line ends, the bytes have come of the first
pub all_begun : (begun bytes more : List ℕ) → has_feed bytes ≡ false → lines_from begun (bytes ++ more) ≡ lines_from (begun ++ bytes) more
all_begun begun [] more e = ap (λ t. lines_from t more) (sym (append-nil begun))
all_begun begun (b ∷ bs) more e =
    let parts : (is_feed_byte b ≡ false) × (has_feed bs ≡ false) = neither (is_feed_byte b) (has_feed bs) e in
    lines_within begun b (bs ++ more) parts.0
    ∙ (all_begun (begun ++ b ∷ []) bs more parts.1 ∙ ap (λ t. lines_from t more) (append_assoc begun (b ∷ []) bs))

-- the first line
abbrev FirstLine : List ℕ → List ℕ → List ℕ → Type 0
FirstLine begun bytes more =
    has_feed bytes ≡ true → lines_from begun (bytes ++ more) ≡ line_of (begun ++ before_first is_feed_byte bytes) ∷ lines_from [] (after_first is_feed_byte bytes ++ more)

pub first_line : (begun bytes more : List ℕ) → FirstLine begun bytes more
first_line begun [] more = λ e. absurd (cc e)
first_line begun (b ∷ bs) more = by_test (first_line (begun ++ b ∷ []) bs more) (cases_Bool (is_feed_byte b))
  where
    by_test : FirstLine (begun ++ b ∷ []) bs more → (is_feed_byte b ≡ true) ⊎ (is_feed_byte b ≡ false) → FirstLine begun (b ∷ bs) more
    by_test later (inl f) = λ e.
        rw (before_here is_feed_byte b bs f, after_here is_feed_byte b bs f)
        (lines_feed begun b (bs ++ more) f ∙ ap (λ t. line_of t ∷ lines_from [] (bs ++ more)) (sym (append-nil begun)))
    by_test later (inr f) = λ e.
        let rest : has_feed bs ≡ true = rw f at e in
        rw (before_later is_feed_byte b bs f, after_later is_feed_byte b bs f)
        (lines_within begun b (bs ++ more) f
        ∙ (later rest ∙ ap (λ t. line_of t ∷ lines_from [] (after_first is_feed_byte bs ++ more)) (append_assoc begun (b ∷ []) (before_first is_feed_byte bs))))

-- a text and its end
whole_line : (text more : List ℕ) → has_feed text ≡ false → lines_of (ended_lines text ++ more) ≡ line_of text ∷ lines_of more
whole_line text more e =
    ap (lines_from []) (append_assoc text (10 ∷ []) more) ∙ (all_begun [] text (10 ∷ more) e ∙ lines_feed text 10 more refl)

-- each line of over 1,100 bytes is strange
long_is_strange : (text : List ℕ) → MOST_BYTES < length text → line_of text ≡ line.Strange
unfolding line_of
long_is_strange text h = let f : nat_le (length text) MOST_BYTES ≡ false = grind (arith, nat_tests) in rw f

both_strange : (text other : List ℕ) (later : List Line) → MOST_BYTES < length text → MOST_BYTES < length other → line_of text ∷ later ≡ line_of other ∷ later
both_strange text other later h k = ap (λ l. l ∷ later) (long_is_strange text h ∙ sym (long_is_strange other k))

longer : (text : List ℕ) (b : ℕ) → MOST_BYTES < length text → MOST_BYTES < length (text ++ b ∷ [])
longer text b h = omega (arith, h, length-append text (b ∷ []))

-- and it does not matter which bytes it has
pub too_long : (text other more : List ℕ) → MOST_BYTES < length text → MOST_BYTES < length other → lines_from text more ≡ lines_from other more
too_long text other [] h k = lines_none text ∙ sym (lines_none other)
too_long text other (b ∷ bs) h k = by_test (too_long (text ++ b ∷ []) (other ++ b ∷ []) bs (longer text b h) (longer other b k)) (cases_Bool (is_feed_byte b))
  where
    by_test : lines_from (text ++ b ∷ []) bs ≡ lines_from (other ++ b ∷ []) bs
        → (is_feed_byte b ≡ true) ⊎ (is_feed_byte b ≡ false) → lines_from text (b ∷ bs) ≡ lines_from other (b ∷ bs)
    by_test later (inl f) = lines_feed text b bs f ∙ (both_strange text other (lines_from [] bs) h k ∙ sym (lines_feed other b bs f))
    by_test later (inr f) = lines_within text b bs f ∙ (later ∙ sym (lines_within other b bs f))

none_in_first : (n : ℕ) (bytes : List ℕ) → has_feed bytes ≡ false → has_feed (take n bytes) ≡ false
none_in_first n bytes e =
    (neither (has_feed (take n bytes)) (has_feed (drop n bytes))
    (sym (list_any-append is_feed_byte (take n bytes) (drop n bytes)) ∙ (ap has_feed (take-append-drop n bytes) ∙ e))).0

-- the first 1,101 bytes stand for all of a line that has not ended
pub first_stand : (bytes more : List ℕ) → has_feed bytes ≡ false → lines_of (bytes ++ more) ≡ lines_of (take most_held bytes ++ more)
first_stand bytes more e =
    all_begun [] bytes more e
    ∙ (by_length (cases_Bool (nat_le (length bytes) most_held)) ∙ sym (all_begun [] (take most_held bytes) more (none_in_first most_held bytes e)))
  where
    by_length : (nat_le (length bytes) most_held ≡ true) ⊎ (nat_le (length bytes) most_held ≡ false)
        → lines_from bytes more ≡ lines_from (take most_held bytes) more
    by_length (inl f) =
        let h : length bytes ≤ most_held = grind (arith, nat_tests) in ap (λ t. lines_from t more) (sym (take_all most_held bytes h))
    by_length (inr f) =
        let h : most_held < length bytes = grind (arith, nat_tests) in
        too_long bytes (take most_held bytes) more (omega (arith, h)) (omega (arith, h, length-take most_held bytes))

-- the lines of a list are the first of those of each longer one
abbrev GoesOn : List ℕ → List ℕ → List ℕ → Type 0
GoesOn begun bytes more = (later : List Line) × (lines_from begun (bytes ++ more) ≡ lines_from begun bytes ++ later)

prefix_from : (begun bytes more : List ℕ) → GoesOn begun bytes more
prefix_from begun [] more = (lines_from begun more, ap (λ l. l ++ lines_from begun more) (sym (lines_none begun)))
prefix_from begun (b ∷ bs) more = by_test (prefix_from [] bs more) (prefix_from (begun ++ b ∷ []) bs more) (cases_Bool (is_feed_byte b))
  where
    by_test : GoesOn [] bs more → GoesOn (begun ++ b ∷ []) bs more → (is_feed_byte b ≡ true) ⊎ (is_feed_byte b ≡ false) → GoesOn begun (b ∷ bs) more
    by_test after within (inl f) =
        (after.0, lines_feed begun b (bs ++ more) f ∙ (ap (λ l. line_of begun ∷ l) after.1 ∙ ap (λ l. l ++ after.0) (sym (lines_feed begun b bs f))))
    by_test after within (inr f) =
        (within.0, lines_within begun b (bs ++ more) f ∙ (within.1 ∙ ap (λ l. l ++ within.0) (sym (lines_within begun b bs f))))

pub prefix : (bytes more : List ℕ) → (later : List Line) × (lines_of (bytes ++ more) ≡ lines_of bytes ++ later)
prefix bytes more = prefix_from [] bytes more

both : (a b : Bool) → (a && b) ≡ true → (a ≡ true) × (b ≡ true)
both true b e = (refl, e)
both false b e = absurd (cc e)

not_true : (a : Bool) → not a ≡ true → a ≡ false
not_true false e = refl
not_true true e = absurd (cc e)

-- texts that are written are read back
pub written : (texts : List (List ℕ)) → list_all is_whole_text texts ≡ true → lines_of (flat_map ended_lines texts) ≡ map line_of texts
written [] e = lines_none []
written (text ∷ texts) e =
    let parts : (is_whole_text text ≡ true) × (list_all is_whole_text texts ≡ true) = both (is_whole_text text) (list_all is_whole_text texts) e in
    whole_line text (flat_map ended_lines texts) (not_true (has_feed text) parts.0) ∙ ap (λ l. line_of text ∷ l) (written texts parts.1)

-- a folder that a line asks to install has a path
abbrev names_path : Line → Bool
names_path (line.Install folder) = is_path_word folder
names_path asked = true

either : (test : Bool) (a b : Line) → names_path a ≡ true → names_path b ≡ true → names_path (cond test a b) ≡ true
either true a b h k = h
either false a b h k = k

install_by : (test : Bool) (folder : List ℕ) → is_path_word folder ≡ test → names_path (cond test (line.Install folder) line.Strange) ≡ true
install_by true folder is = is
install_by false folder is = refl

is_install : (folder : List ℕ) → names_path (install_of folder) ≡ true
is_install folder = install_by (is_path_word folder) folder refl

if_any : {A : Type 0} (line_of_it : A → Line) (o : Option A) → ((a : A) → names_path (line_of_it a) ≡ true)
    → names_path (option_map_or line_of_it o line.Strange) ≡ true
if_any line_of_it None h = refl
if_any line_of_it (Some a) h = h a

of_words : (words : List ℕ) → names_path (words_of words) ≡ true
unfolding words_of
of_words words = search (either, is_install, if_any) depth 40

of_command : (bytes : List ℕ) → names_path (asked_in bytes) ≡ true
unfolding asked_in
of_command bytes = search (either, of_words) depth 40

of_line : (bytes : List ℕ) → names_path (line_of bytes) ≡ true
unfolding line_of
of_line bytes = either (nat_le (length bytes) MOST_BYTES) (asked_in (without_return bytes)) line.Strange (of_command (without_return bytes)) refl

-- the folder of an `install` is named as folders are
pub named_folder : (bytes folder : List ℕ) → line_of bytes ≡ line.Install folder → is_path_word folder ≡ true
named_folder bytes folder e = sym (ap names_path e) ∙ of_line bytes
