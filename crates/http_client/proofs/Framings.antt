-- How the body ends, by how many values there are and by the first of them.
use Rattle.std.proofs.Common.{◌≡◌, ℕ, ◌≤◌, ◌<◌, List, [], ◌∷◌, length, None, Some, refl, ap, sym, ◌∙◌, arith}
use Rattle.std.proofs.Common.{◌≢◌, cond, codes}
use Rattle.std.proofs.lemmas.Bool.{eq-eqb, ne_eqb}
use Rattle.http_client.specs.Fields.{first_of}
use Rattle.td_base.specs.Texts.{field_values}
use Rattle.http_client.specs.Replies.{Unread, ToTheEnd, framing, framed_by_size, sized_by}

abbrev codings : List (List ℕ × List ℕ) → List (List ℕ)
codings pairs = field_values (codes "transfer-encoding") pairs

abbrev lengths : List (List ℕ × List ℕ) → List (List ℕ)
lengths pairs = field_values (codes "content-length") pairs

pub coded : (pairs : List (List ℕ × List ℕ)) (n : ℕ) → n ≡ length (codings pairs) → n ≢ 0 → framing pairs ≡ Unread
unfolding framing
coded pairs n is some = ap (λ t. cond t (sized_by (lengths pairs)) Unread) (ne_eqb (length (codings pairs)) 0 (λ z. some (is ∙ z)))

uncoded : (pairs : List (List ℕ × List ℕ)) (n : ℕ) → n ≡ length (codings pairs) → n ≡ 0 → framing pairs ≡ sized_by (lengths pairs)
unfolding framing
uncoded pairs n is none = ap (λ t. cond t (sized_by (lengths pairs)) Unread) (eq-eqb (length (codings pairs)) 0 (sym is ∙ none))

many_values : (vs : List (List ℕ)) (n : ℕ) → n ≡ length vs → 1 < n → sized_by vs ≡ Unread
many_values [] n is m = absurd (omega (arith, is, m))
many_values (v ∷ []) n is m = absurd (omega (arith, is, m))
many_values (v ∷ w ∷ vs) n is m = refl

no_value : (vs : List (List ℕ)) → None ≡ first_of vs → sized_by vs ≡ ToTheEnd
no_value [] e = refl
no_value (v ∷ vs) e = absurd (cc)

one_value : (vs : List (List ℕ)) (v : List ℕ) (n : ℕ) → n ≡ length vs → n ≤ 1 → Some v ≡ first_of vs → sized_by vs ≡ framed_by_size v
one_value [] v n is m e = absurd (cc)
one_value (w ∷ []) v n is m e = let same : v ≡ w = cc in ap framed_by_size (sym same)
one_value (w ∷ x ∷ vs) v n is m e = absurd (omega (arith, is, m))

pub sized_twice : (pairs : List (List ℕ × List ℕ)) (m n : ℕ) → m ≡ length (codings pairs) → m ≡ 0 → n ≡ length (lengths pairs) → 1 < n → framing pairs ≡ Unread
sized_twice pairs m n is none are many = uncoded pairs m is none ∙ many_values (lengths pairs) n are many

pub sized_once : (pairs : List (List ℕ × List ℕ)) (m n : ℕ) (v : List ℕ) → m ≡ length (codings pairs) → m ≡ 0 → n ≡ length (lengths pairs) → n ≤ 1
    → Some v ≡ first_of (lengths pairs) → framing pairs ≡ framed_by_size v
sized_once pairs m n v is none are few first = uncoded pairs m is none ∙ one_value (lengths pairs) v n are few first

pub not_sized : (pairs : List (List ℕ × List ℕ)) (m : ℕ) → m ≡ length (codings pairs) → m ≡ 0 → None ≡ first_of (lengths pairs) → framing pairs ≡ ToTheEnd
not_sized pairs m is none first = uncoded pairs m is none ∙ no_value (lengths pairs) first
