-- An entity tag is parted into the tag of a content, a format and bounds in one way.
use Rattle.std.proofs.Common.{◌≡◌, ℕ, ◌+◌, ℤ, List, [], ◌∷◌, ◌++◌, length, take, drop, codes, ◌≢◌, Some, refl, sym, ap, ap₂, ◌∙◌, arith, append_assoc}
use Rattle.std.proofs.Math.Seq.{take-append_seam, drop-append_seam}
use Rattle.std.proofs.lemmas.Int.{ints}
use Rattle.std.proofs.lemmas.List.{append_cancel_right}
use Rattle.td_civil.specs.Bounds.{HasText}
use Rattle.td_civil.specs.Calendar.{text_of}
use Rattle.td_civil.specs.Reading.{moment_in}
use Rattle.td_civil.specs.declared.moment_type.Moment.{Moment}
use Rattle.td_civil.proofs.lemmas.Shown.{reads_back_lem}
use Rattle.negotiate.specs.declared.choosing.Format.{Format}
use Rattle.negotiate.specs.declared.choosing.Format.TheVariants as format
use Rattle.actions.specs.Bounds.{AreBounds}
use Rattle.actions.specs.Formats.{format_data}
use Rattle.actions.specs.Tags.{after_point, bounds_text, data_tag}
use Rattle.actions.specs.declared.bounds.Bound.{Bound}
use Rattle.actions.specs.declared.bounds.Bound.TheVariants.{Open, At}
use Rattle.actions.specs.declared.bounds.Bounds.{Bounds}

-- two fronts of one length
record HasSameFront (a b x y : List ℕ) : Type 0 where
  front : a ≡ b
  rest : x ≡ y

parted : (a b x y : List ℕ) → length a ≡ length b → a ++ x ≡ b ++ y → HasSameFront a b x y
parted a b x y n e = record {
  front = sym (take-append_seam a x) ∙ ap (take (length a)) e ∙ ap (λ k. take k (b ++ y)) n ∙ take-append_seam b y;
  rest = sym (drop-append_seam a x) ∙ ap (drop (length a)) e ∙ ap (λ k. drop k (b ++ y)) n ∙ drop-append_seam b y;
}

tail_of : (m n : ℕ) (x y : List ℕ) → m ∷ x ≡ n ∷ y → x ≡ y
tail_of m n x y e = cc

head_of : (m n : ℕ) (x y : List ℕ) → m ∷ x ≡ n ∷ y → m ≡ n
head_of m n x y e = cc

-- ---- moments

text_length : (m : ℤ) → length (text_of m) ≡ 20
unfolding text_of
text_length m = refl

-- a text begins with a digit
record IsDigits (text : List ℕ) : Type 0 where
  digit : ℕ
  more : List ℕ
  is : text ≡ (48 + digit) ∷ more

digits_first : (m : ℤ) → IsDigits (text_of m)
unfolding text_of
digits_first m = record { digit = _; more = _; is = refl }

no_dash : (m : ℤ) (x y : List ℕ) → 45 ∷ x ≡ text_of m ++ y → ⊥
no_dash m x y e =
    let d = digits_first m in
    let same : 45 ∷ x ≡ (48 + d.digit) ∷ (d.more ++ y) = e ∙ ap (λ t. t ++ y) d.is in
    let first : 45 ≡ 48 + d.digit = head_of 45 (48 + d.digit) x (d.more ++ y) same in
    omega arith

some_inj : (m n : ℤ) → Some m ≡ Some n → m ≡ n
some_inj m n e = cc

one_moment : (m n : Moment) → HasText m.seconds → HasText n.seconds → text_of m.seconds ≡ text_of n.seconds → m ≡ n
one_moment m n hm hn e =
    let seconds = some_inj m.seconds n.seconds (sym (reads_back_lem m.seconds hm) ∙ ap moment_in e ∙ reads_back_lem n.seconds hn) in
    ap (λ (s : ℤ). let made : Moment = record { seconds = s } in made) seconds

-- ---- bounds

-- each moment of a bound has a text
abbrev HasTextIfAny : Bound → Type 0
HasTextIfAny Open = Unit {0}
HasTextIfAny (At m) = HasText m.seconds

abbrev quoted : List ℕ
quoted = 34 ∷ []

abbrev point : Bound → List ℕ
point Open = 46 ∷ 45 ∷ []
point (At m) = 46 ∷ text_of m.seconds

point_is : (b : Bound) → after_point b ≡ point b
unfolding after_point
point_is Open = refl
point_is (At m) = refl

same_end : (a b : Bound) → HasTextIfAny a → HasTextIfAny b → point a ++ quoted ≡ point b ++ quoted → a ≡ b
same_end Open Open ha hb e = refl
same_end Open (At n) ha hb e = absurd (no_dash n.seconds quoted quoted (tail_of 46 46 (45 ∷ quoted) (text_of n.seconds ++ quoted) e))
same_end (At m) Open ha hb e = absurd (no_dash m.seconds quoted quoted (sym (tail_of 46 46 (text_of m.seconds ++ quoted) (45 ∷ quoted) e)))
same_end (At m) (At n) ha hb e =
    ap At (one_moment m n ha hb (append_cancel_right (text_of m.seconds) (text_of n.seconds) quoted (tail_of 46 46 (text_of m.seconds ++ quoted) (text_of n.seconds ++ quoted) e)))

-- what stands after the mark of a format
abbrev shown : Bound → Bound → List ℕ
shown Open Open = []
shown Open (At m) = 46 ∷ 45 ∷ point (At m)
shown (At m) end = 46 ∷ (text_of m.seconds ++ point end)

shown_is : (s e : Bound) → bounds_text s e ≡ shown s e
unfolding after_point
shown_is Open Open = refl
shown_is Open (At m) = refl
shown_is (At m) Open = refl
shown_is (At m) (At n) = refl

record AreSame (s e s₂ e₂ : Bound) : Type 0 where
  start : s ≡ s₂
  end : e ≡ e₂

other_head : (m n : ℕ) (x y : List ℕ) → m ≢ n → m ∷ x ≡ n ∷ y → ⊥
other_head m n x y other e = other (head_of m n x y e)

not_equal : ◌≢◌ {A = ℕ} 34 46
not_equal e = omega (arith, e)

unquoted : (x : List ℕ) → quoted ≡ 46 ∷ x → ⊥
unquoted x e = other_head 34 46 [] x not_equal e

same_bounds : (s e s₂ e₂ : Bound) → HasTextIfAny s → HasTextIfAny e → HasTextIfAny s₂ → HasTextIfAny e₂ → shown s e ++ quoted ≡ shown s₂ e₂ ++ quoted → AreSame s e s₂ e₂
same_bounds Open Open Open Open hs he hs₂ he₂ is = record { start = refl; end = refl }
same_bounds Open Open Open (At n) hs he hs₂ he₂ is = absurd (unquoted (45 ∷ (point (At n) ++ quoted)) is)
same_bounds Open Open (At n) e₂ hs he hs₂ he₂ is = absurd (unquoted ((text_of n.seconds ++ point e₂) ++ quoted) is)
same_bounds Open (At m) Open Open hs he hs₂ he₂ is = absurd (unquoted (45 ∷ (point (At m) ++ quoted)) (sym is))
same_bounds Open (At m) Open (At n) hs he hs₂ he₂ is =
    record {
      start = refl;
      end = same_end (At m) (At n) he he₂ (tail_of 45 45 (point (At m) ++ quoted) (point (At n) ++ quoted)
          (tail_of 46 46 (45 ∷ (point (At m) ++ quoted)) (45 ∷ (point (At n) ++ quoted)) is));
    }
same_bounds Open (At m) (At n) e₂ hs he hs₂ he₂ is =
    absurd (no_dash n.seconds (point (At m) ++ quoted) (point e₂ ++ quoted)
    (tail_of 46 46 (45 ∷ (point (At m) ++ quoted)) ((text_of n.seconds ++ point e₂) ++ quoted) is ∙ append_assoc (text_of n.seconds) (point e₂) quoted))
same_bounds (At m) e Open Open hs he hs₂ he₂ is = absurd (unquoted ((text_of m.seconds ++ point e) ++ quoted) (sym is))
same_bounds (At m) e Open (At n) hs he hs₂ he₂ is =
    absurd (no_dash m.seconds (point (At n) ++ quoted) (point e ++ quoted)
    (tail_of 46 46 (45 ∷ (point (At n) ++ quoted)) ((text_of m.seconds ++ point e) ++ quoted) (sym is) ∙ append_assoc (text_of m.seconds) (point e) quoted))
same_bounds (At m) e (At n) e₂ hs he hs₂ he₂ is =
    let rest = tail_of 46 46 ((text_of m.seconds ++ point e) ++ quoted) ((text_of n.seconds ++ point e₂) ++ quoted) is in
    let two = parted (text_of m.seconds) (text_of n.seconds) (point e ++ quoted) (point e₂ ++ quoted) (text_length m.seconds ∙ sym (text_length n.seconds))
    (sym (append_assoc (text_of m.seconds) (point e) quoted) ∙ rest ∙ append_assoc (text_of n.seconds) (point e₂) quoted) in
    record { start = ap At (one_moment m n hs hs₂ two.front); end = same_end e e₂ he he₂ two.rest }

start_text : (s e : Bound) → AreBounds (record { start = s; end = e }) → HasTextIfAny s
start_text Open e are = tt
start_text (At m) e are = let low = are.start.0 in let high = are.start.1 in (omega (arith, ints), omega (arith, ints))

end_text : (s e : Bound) → AreBounds (record { start = s; end = e }) → HasTextIfAny e
end_text s Open are = tt
end_text s (At m) are = let low = are.start.0 in let later = are.end.0 in let high = are.end.1 in (omega (arith, ints), omega (arith, ints))

-- ---- the whole tag

abbrev bounds_by : Bound → Bound → Bounds
bounds_by s e = record { start = s; end = e }

regrouped : (a d m s q : List ℕ) → (((a ++ d) ++ m) ++ s) ++ q ≡ a ++ (d ++ (m ++ (s ++ q)))
regrouped a d m s q = simp append_assoc

tag_is : (a mark : List ℕ) (p : Bounds) → data_tag a mark p ≡ 34 ∷ (a ++ (46 ∷ (mark ++ (shown p.start p.end ++ quoted))))
unfolding data_tag
tag_is a mark p =
    ap (λ (b : List ℕ). 34 ∷ ((((a ++ codes ".") ++ mark) ++ b) ++ quoted)) (shown_is p.start p.end)
    ∙ ap (λ (x : List ℕ). 34 ∷ x) (regrouped a (codes ".") mark (shown p.start p.end) quoted)

-- the marks of two formats begin differently
same_format : (f g : Format) (x y : List ℕ) → (format_data f).mark ++ x ≡ (format_data g).mark ++ y → f ≡ g
same_format format.Calendar format.Calendar x y e = refl
same_format format.Calendar format.Tzif x y e = absurd (let first : 99 ≡ 116 = head_of 99 116 _ _ e in omega arith)
same_format format.Calendar format.CalendarJson x y e = absurd (let first : 99 ≡ 106 = head_of 99 106 _ _ e in omega arith)
same_format format.Tzif format.Calendar x y e = absurd (let first : 116 ≡ 99 = head_of 116 99 _ _ e in omega arith)
same_format format.Tzif format.Tzif x y e = refl
same_format format.Tzif format.CalendarJson x y e = absurd (let first : 116 ≡ 106 = head_of 116 106 _ _ e in omega arith)
same_format format.CalendarJson format.Calendar x y e = absurd (let first : 106 ≡ 99 = head_of 106 99 _ _ e in omega arith)
same_format format.CalendarJson format.Tzif x y e = absurd (let first : 106 ≡ 116 = head_of 106 116 _ _ e in omega arith)
same_format format.CalendarJson format.CalendarJson x y e = refl

pub same_tags : (a b : List ℕ) (f g : Format) (p q : Bounds) → length a ≡ length b → AreBounds p → AreBounds q
    → data_tag a (format_data f).mark p ≡ data_tag b (format_data g).mark q → (a ≡ b) × (f ≡ g) × (p ≡ q)
same_tags a b f g p q n hp hq e =
    let x = shown p.start p.end ++ quoted in
    let y = shown q.start q.end ++ quoted in
    let front = parted a b (46 ∷ ((format_data f).mark ++ x)) (46 ∷ ((format_data g).mark ++ y)) n
    (tail_of 34 34 _ _ (sym (tag_is a (format_data f).mark p) ∙ e ∙ tag_is b (format_data g).mark q)) in
    let marks = tail_of 46 46 ((format_data f).mark ++ x) ((format_data g).mark ++ y) front.rest in
    let formats = same_format f g x y marks in
    let one = parted (format_data f).mark (format_data g).mark x y (ap (λ (h : Format). length (format_data h).mark) formats) marks in
    let same = same_bounds p.start p.end q.start q.end (start_text p.start p.end hp) (end_text p.start p.end hp) (start_text q.start q.end hq)
    (end_text q.start q.end hq) one.rest in
    (front.front, formats, ap₂ (λ (s t : Bound). bounds_by s t) same.start same.end)
