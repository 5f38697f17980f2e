-- The rules with which words begin, one by one.
use Rattle.std.proofs.Common.{◌≡◌, ℕ, ◌<◌, ◌≤◌, ◌^◌, List, [], ◌∷◌, ◌++◌, length, map, drop, length-append, true, false, Option, None, Some, inl, inr, refl}
use Rattle.std.proofs.Common.{sym, ap, ◌∙◌, subst, arith}
use Rattle.std.specs.Prelude.{if◌then◌else◌, not, ◌||◌, ◌⊎◌}
use Rattle.std.specs.List.{list_any}
use Rattle.std.specs.Option.{option_map}
use Rattle.std.proofs.lemmas.Bool.{and_from, and_left, and_parts, and_right, not-true, not_from_false, not_from_true, or_cases, or_from, or_left, or_parts}
use Rattle.std.proofs.lemmas.Bool.{or_right, true≢false}
use Rattle.std.proofs.lemmas.List.{append-nil, append_assoc, length-map}
use Rattle.std.proofs.lemmas.List.Folds.{list_any-append}
use Rattle.admission.specs.declared.rules.Chosen.{Chosen}
use Rattle.admission.specs.declared.rules.RuleKind.{RuleKind}
use Rattle.admission.specs.declared.rules.RuleKind.TheVariants as kind
use Rattle.td_top.specs.Command.{are_once, has_kind, if_once, is_same_kind, next_rule, rule_of_words, rules_then, with_rule_if_any}

-- what words begin with by the rule that is next
abbrev with_next : List (List ℕ) → Option (Chosen × List (List ℕ)) → List Chosen × List (List ℕ)
with_next words None = ([], words)
with_next words (Some p) = (p.0 ∷ (rules_then p.1).0, (rules_then p.1).1)

begins : (name value : List ℕ) (words : List (List ℕ)) (rule : Option Chosen) → rule_of_words name value ≡ rule
    → rules_then (name ∷ value ∷ words) ≡ with_next (name ∷ value ∷ words) (option_map (λ r. (r, words)) rule)
unfolding rules_then
begins name value words None is = ap (λ o. with_rule_if_any (name ∷ value ∷ words) o (rules_then words)) is
begins name value words (Some rule) is = ap (λ o. with_rule_if_any (name ∷ value ∷ words) o (rules_then words)) is

next_is : (words : List (List ℕ)) → rules_then words ≡ with_next words (next_rule words)
unfolding rules_then
next_is [] = refl
next_is (name ∷ []) = refl
next_is (name ∷ value ∷ words) = begins name value words (rule_of_words name value) refl

then_is : (words : List (List ℕ)) (next : Option (Chosen × List (List ℕ))) → next ≡ next_rule words → rules_then words ≡ with_next words next
then_is words next is = next_is words ∙ ap (with_next words) (sym is)

-- ---- rules of kinds that come once

same_turned : (a b : RuleKind) → is_same_kind a b ≡ is_same_kind b a
same_turned kind.MaxChanged kind.MaxChanged = refl
same_turned kind.MaxChanged kind.NoPastChange = refl
same_turned kind.NoPastChange kind.MaxChanged = refl
same_turned kind.NoPastChange kind.NoPastChange = refl

twice_so : (x r : Chosen) (xs rs : List Chosen) → (has_kind r.kind xs ≡ true → are_once (xs ++ r ∷ rs) ≡ false)
    → (is_same_kind x.kind r.kind ≡ true) ⊎ (has_kind r.kind xs ≡ true) → are_once (x ∷ xs ++ r ∷ rs) ≡ false
unfolding are_once
twice_so x r xs rs later (inl same) =
    let among : has_kind x.kind (xs ++ r ∷ rs) ≡ true = list_any-append (λ o. is_same_kind o.kind x.kind) xs (r ∷ rs)
    ∙ or_right (has_kind x.kind xs) (has_kind x.kind (r ∷ rs))
    (or_left (is_same_kind r.kind x.kind) (has_kind x.kind rs) (same_turned r.kind x.kind ∙ same)) in
    and_left (not (has_kind x.kind (xs ++ r ∷ rs))) (are_once (xs ++ r ∷ rs)) (not_from_true (has_kind x.kind (xs ++ r ∷ rs)) among)
twice_so x r xs rs later (inr has) = and_right (not (has_kind x.kind (xs ++ r ∷ rs))) (are_once (xs ++ r ∷ rs)) (later has)

come_twice : (xs rs : List Chosen) (r : Chosen) → has_kind r.kind xs ≡ true → are_once (xs ++ r ∷ rs) ≡ false
come_twice [] rs r has = absurd (true≢false (sym has))
come_twice (x ∷ xs) rs r has = twice_so x r xs rs (come_twice xs rs r) (or_cases (is_same_kind x.kind r.kind) (has_kind r.kind xs) has)

-- one more, of another kind
pub once_more : (xs : List Chosen) (r : Chosen) → are_once xs ≡ true → has_kind r.kind xs ≡ false → are_once (xs ++ r ∷ []) ≡ true
unfolding are_once
once_more [] r once none = refl
once_more (x ∷ xs) r once none =
    let parts = and_parts (not (has_kind x.kind xs)) (are_once xs) once in
    let others = or_parts (is_same_kind x.kind r.kind) (has_kind r.kind xs) none in
    let apart : has_kind x.kind (xs ++ r ∷ []) ≡ false = list_any-append (λ o. is_same_kind o.kind x.kind) xs (r ∷ [])
    ∙ or_from (has_kind x.kind xs) (has_kind x.kind (r ∷ [])) (not-true (has_kind x.kind xs) parts.0)
    (or_from (is_same_kind r.kind x.kind) false (same_turned r.kind x.kind ∙ others.0) refl) in
    and_from (not (has_kind x.kind (xs ++ r ∷ []))) (are_once (xs ++ r ∷ [])) (not_from_false (has_kind x.kind (xs ++ r ∷ [])) apart)
    (once_more xs r parts.1 others.1)

-- there are two kinds
three_kinds : (a b c : RuleKind) → is_same_kind a b ≡ false → is_same_kind a c ≡ false → is_same_kind b c ≡ false → ⊥
three_kinds kind.MaxChanged kind.MaxChanged c ab ac bc = true≢false ab
three_kinds kind.MaxChanged kind.NoPastChange kind.MaxChanged ab ac bc = true≢false ac
three_kinds kind.MaxChanged kind.NoPastChange kind.NoPastChange ab ac bc = true≢false bc
three_kinds kind.NoPastChange kind.MaxChanged kind.MaxChanged ab ac bc = true≢false bc
three_kinds kind.NoPastChange kind.MaxChanged kind.NoPastChange ab ac bc = true≢false ac
three_kinds kind.NoPastChange kind.NoPastChange c ab ac bc = true≢false ab

fewer : (xs : List Chosen) (k : RuleKind) → are_once xs ≡ true → has_kind k xs ≡ false → length xs < 2
unfolding are_once
fewer [] k once none = omega arith
fewer (a ∷ []) k once none = omega arith
fewer (a ∷ b ∷ xs) k once none =
    let first = not-true (has_kind a.kind (b ∷ xs)) (and_parts (not (has_kind a.kind (b ∷ xs))) (are_once (b ∷ xs)) once).0 in
    let others = or_parts (is_same_kind a.kind k) (has_kind k (b ∷ xs)) none in
    absurd (three_kinds b.kind a.kind k (or_parts (is_same_kind b.kind a.kind) (has_kind a.kind xs) first).0
    (or_parts (is_same_kind b.kind k) (has_kind k xs) others.1).0 others.0)

-- so that there is room for one of another kind
pub has_room : {X : Type 0} (rule_in : X → Chosen) (xs : List X) (k : RuleKind) → are_once (map rule_in xs) ≡ true
    → has_kind k (map rule_in xs) ≡ false → length xs < 2
has_room rule_in xs k once none = subst (λ n. n < 2) (length-map xs rule_in) (fewer (map rule_in xs) k once none)

-- rules that are taken over one by one stay as few
pub few_rules : {X : Type 0} (rule_in : X → Chosen) (xs : List X) (i : ℕ) (chosen : List Chosen)
    → chosen ++ map rule_in (drop i xs) ≡ map rule_in xs → length xs ≤ 2 → length chosen < 2 ^ 32
few_rules rule_in xs i chosen goes few =
    omega (arith, ap length goes, length-append chosen (map rule_in (drop i xs)), length-map xs rule_in, few)

pub has_mapped : {X : Type 0} (rule_in : X → Chosen) (xs : List X) (k : RuleKind)
    → list_any (λ x. is_same_kind (rule_in x).kind k) xs ≡ has_kind k (map rule_in xs)
has_mapped rule_in [] k = refl
has_mapped rule_in (x ∷ xs) k = ap (λ b. is_same_kind (rule_in x).kind k || b) (has_mapped rule_in xs k)

-- ---- the rules that were read, and those that follow

abbrev pub after_rules : List Chosen → List Chosen × List (List ℕ) → List Chosen × List (List ℕ)
after_rules chosen found = (chosen ++ found.0, found.1)

pub none_read : (found : List Chosen × List (List ℕ)) → after_rules [] found ≡ found
none_read found = refl

pub none_once : are_once [] ≡ true
unfolding are_once
none_once = refl

pub one_read : (left rest : List (List ℕ)) (chosen : List Chosen) (rule : Chosen) (all : List Chosen × List (List ℕ))
    → Some (rule, rest) ≡ next_rule left → after_rules chosen (rules_then left) ≡ all → after_rules (chosen ++ rule ∷ []) (rules_then rest) ≡ all
one_read left rest chosen rule all is so =
    ap (λ xs. (xs, (rules_then rest).1)) (append_assoc chosen (rule ∷ []) (rules_then rest).0)
    ∙ (sym (ap (after_rules chosen) (then_is left (Some (rule, rest)) is)) ∙ so)

pub read_twice : (left rest : List (List ℕ)) (chosen : List Chosen) (rule : Chosen) (all : List Chosen × List (List ℕ))
    → Some (rule, rest) ≡ next_rule left → has_kind rule.kind chosen ≡ true → after_rules chosen (rules_then left) ≡ all → None ≡ if_once all
read_twice left rest chosen rule all is has so =
    let found : List Chosen × List (List ℕ) = (chosen ++ rule ∷ (rules_then rest).0, (rules_then rest).1) in
    sym (ap (λ b. if b then Some found else None) (come_twice chosen (rules_then rest).0 rule has))
    ∙ ap if_once (sym (ap (after_rules chosen) (then_is left (Some (rule, rest)) is)) ∙ so)

pub all_read : (left : List (List ℕ)) (chosen : List Chosen) (all : List Chosen × List (List ℕ)) → None ≡ next_rule left → are_once chosen ≡ true
    → after_rules chosen (rules_then left) ≡ all → Some (chosen, left) ≡ if_once all
all_read left chosen all is once so =
    sym (ap (λ b. if b then Some (chosen, left) else None) once)
    ∙ ap if_once (ap (λ xs. (xs, left)) (sym (append-nil chosen)) ∙ (sym (ap (after_rules chosen) (then_is left None is)) ∙ so))
