-- The changes of a state over a stretch in which it stays, and over its end.
use Rattle.std.proofs.Common.{◌≡◌, ◌≢◌, ℕ, zero, suc, ◌+◌, ◌-◌, [], ◌∷◌, Bool, true, false, not, cond, refl, sym, subst, ap, ◌∙◌, arith, ℤ, pos, ◌+ℤ◌, ◌-ℤ◌}
use Rattle.std.proofs.Common.{◌≤ℤ◌, ◌<ℤ◌, unsigned_abs}
use Rattle.std.proofs.lemmas.Int.{by_lt_z}
use Rattle.jiff_core.proofs.SignedLemmas.{signed_arith, one_part}
use Rattle.td_base.specs.declared.short_text.ShortText.{ShortText}
use Rattle.td_civil.specs.declared.moment_type.Moment.{Moment}
use Rattle.td_civil.specs.declared.local_time.Local.{Local}
use Rattle.td_civil.proofs.lemmas.SameStates.{same_local_of, local_other}
use Rattle.zone_meaning.specs.Observed.{is_change, observance, change_at, first_at, changes_after, changes_between, observed}
use Rattle.zone_meaning.specs.Walks.{StaysUntil}

pub no_change : (state : ℤ → Local) (t : ℤ) → state t ≡ state (t -ℤ pos 1) → is_change state t ≡ false
no_change state t same = ap not (same_local_of (state t) (state (t -ℤ pos 1)) same)

pub some_change : (state : ℤ → Local) (t : ℤ) → state t ≢ state (t -ℤ pos 1) → is_change state t ≡ true
some_change state t other = ap not (local_other (state t) (state (t -ℤ pos 1)) other)

-- where the state stays for k seconds, no change comes in them
pub changes_skip : (state : ℤ → Local) (k n : ℕ) (t u : ℤ) → u ≡ t +ℤ pos k → ((v : ℤ) → t <ℤ v → v ≤ℤ u → state v ≡ state (v -ℤ pos 1))
    → changes_after state t (k + n) ≡ changes_after state u n
unfolding changes_after
changes_skip state zero n t u is stays =
    let same : u ≡ t = omega (arith, signed_arith, is) in
    let none : 0 + n ≡ n = omega arith in
    rw (same, none) refl
changes_skip state (suc k) n t u is stays =
    let next = t +ℤ pos 1 in
    let more : suc k + n ≡ suc (k + n) = omega arith in
    let back : next -ℤ pos 1 ≡ t = omega (arith, signed_arith) in
    let no = no_change state next (stays next (omega (arith, signed_arith)) (omega (arith, signed_arith, is))) in
    rw (more, no) (changes_skip state k n next u (omega (arith, signed_arith, is)) (λ v low high. stays v (omega (arith, signed_arith)) high))

-- and a change at the end of them comes next
pub changes_step : (state : ℤ → Local) (n : ℕ) (t u : ℤ) → u ≡ t +ℤ pos 1 → state u ≢ state (u -ℤ pos 1)
    → changes_after state t (suc n) ≡ change_at state u ∷ changes_after state u n
unfolding changes_after
changes_step state n t u is other =
    let P : ℤ → Type 0 = λ k. cond (is_change state k) (change_at state k ∷ changes_after state k n) (changes_after state k n) ≡ change_at state
    u ∷ changes_after state u n in
    subst P is (rw (some_change state u other) refl)

steady : (state : ℤ → Local) (t u v : ℤ) → StaysUntil state t u → t <ℤ v → v <ℤ u → state v ≡ state (v -ℤ pos 1)
steady state t u v stays low high =
    stays v (omega (arith, signed_arith)) high ∙ sym (stays (v -ℤ pos 1) (omega (arith, signed_arith)) (omega (arith, signed_arith)))

nothing_after : (state : ℤ → Local) (t : ℤ) → changes_after state t 0 ≡ []
unfolding changes_after
nothing_after state t = refl

-- the state stays to the end of the range: nothing is left
pub none_left : (state : ℤ → Local) (t end : ℤ) → t <ℤ end → StaysUntil state t end → changes_between state t end ≡ []
unfolding changes_between
none_left state t end before stays =
    let n = unsigned_abs (end -ℤ t) - 1 in
    let is = one_part (end -ℤ t) in
    let whole : n + 0 ≡ n = omega arith in
    let last : t +ℤ pos n ≡ end -ℤ pos 1 = omega (arith, signed_arith, is) in
    ap (changes_after state t) (sym whole)
    ∙ changes_skip state n 0 t (t +ℤ pos n) refl (λ v low high. steady state t end v stays low (omega (arith, signed_arith, last)))
    ∙ nothing_after state (t +ℤ pos n)

-- it stays over a moment: what is left stays
pub same_left : (state : ℤ → Local) (t m end : ℤ) → t <ℤ m → m <ℤ end → StaysUntil state t m → state m ≡ state t
    → changes_between state t end ≡ changes_between state m end
unfolding changes_between
same_left state t m end later before stays same =
    let k = unsigned_abs (m -ℤ t) in
    let r = unsigned_abs (end -ℤ m) - 1 in
    let to_m = one_part (m -ℤ t) in
    let from_m = one_part (end -ℤ m) in
    let all = one_part (end -ℤ t) in
    let sum : unsigned_abs (end -ℤ t) - 1 ≡ k + r = omega (arith, signed_arith, to_m, from_m, all) in
    ap (changes_after state t) sum
    ∙ changes_skip state k r t m (omega (arith, signed_arith, to_m))
    (λ v low high. by_lt_z v m (λ lt. steady state t m v stays low lt)
    (λ ge. let is : v ≡ m = omega (arith, signed_arith) in
    let P : ℤ → Type 0 = λ w. state w ≡ state (w -ℤ pos 1) in
    subst P (sym is) (same ∙ sym (stays (m -ℤ pos 1) (omega (arith, signed_arith)) (omega (arith, signed_arith))))))

-- it changes at a moment: that change comes first
pub change_left : (state : ℤ → Local) (t m end : ℤ) → t <ℤ m → m <ℤ end → StaysUntil state t m → state m ≢ state t
    → changes_between state t end ≡ change_at state m ∷ changes_between state m end
unfolding changes_between
change_left state t m end later before stays other =
    let j = unsigned_abs (m -ℤ t) - 1 in
    let r = unsigned_abs (end -ℤ m) - 1 in
    let to_m = one_part (m -ℤ t) in
    let from_m = one_part (end -ℤ m) in
    let all = one_part (end -ℤ t) in
    let sum : unsigned_abs (end -ℤ t) - 1 ≡ j + suc r = omega (arith, signed_arith, to_m, from_m, all) in
    let last : m -ℤ pos 1 ≡ t +ℤ pos j = omega (arith, signed_arith, to_m) in
    let next : m ≡ (m -ℤ pos 1) +ℤ pos 1 = omega (arith, signed_arith) in
    let stayed = stays (m -ℤ pos 1) (omega (arith, signed_arith)) (omega (arith, signed_arith)) in
    ap (changes_after state t) sum
    ∙ changes_skip state j (suc r) t (m -ℤ pos 1) last (λ v low high. steady state t m v stays low (omega (arith, signed_arith)))
    ∙ changes_step state r (m -ℤ pos 1) m next (λ same. other (same ∙ stayed))

-- the change at a moment up to which the state stayed
pub change_is : (state : ℤ → Local) (t m : ℤ) → t <ℤ m → StaysUntil state t m → observance m (state t).offset (state m) ≡ change_at state m
unfolding change_at
change_is state t m later stays =
    let stayed = stays (m -ℤ pos 1) (omega (arith, signed_arith)) (omega (arith, signed_arith)) in
    ap (λ (s : Local). observance m s.offset (state m)) (sym stayed)

pub observed_is : (state : ℤ → Local) (a b : ℤ) → observance a (state a).offset (state a) ∷ changes_between state a b ≡ observed state a b
unfolding observed first_at
observed_is state a b = refl

-- what is made of the offset before a moment and the state at it
pub made_is : (m : Moment) (old new : Local) (before after : ℤ) (flag : Bool) (name : ShortText 32) → before ≡ old.offset → after ≡ new.offset
    → flag ≡ new.dst → name ≡ new.name
    → record { onset = m; from = before; to = after; dst = flag; name = name } ≡ observance m.seconds old.offset new
made_is m old new before after flag name from to dst is = rw (from, to, dst, is) refl
