-- The parts of a reply: its lines, the empty line, and the body.
use Rattle.std.proofs.Common.{◌≡◌, ℕ, ◌+◌, ◌-◌, ◌≤◌, List, [], ◌∷◌, ◌++◌, length, take, drop, flat_map, Bool, true, false, codes, if◌then◌else◌}
use Rattle.std.proofs.Common.{◌==◌, ◌||◌, refl, sym, ap, ◌∙◌, subst, arith, append_assoc}
use Rattle.std.proofs.lemmas.Bool.{eqb-true}
use Rattle.std.proofs.lemmas.List.{append-nil, length-append}
use Rattle.std.proofs.Math.Seq.{drop-append-add, drop-append_seam, take-append-add, take-append_seam}
use Rattle.std.proofs.lemmas.Grind.{flat_map-append}
use Rattle.http_answer.specs.Replies.{IsAnswerStatus, body_sent, close_lines, ended, fields, reply, status_line}
use Rattle.http_answer.specs.declared.answer.Answer.{Answer}
use Rattle.answer_cache.specs.Ready.{IsReady, answer_in, head_lines}

-- a reply after which the connection stays open
pub open_reply : (a : Answer) (head_only : Bool) → reply a head_only false ≡ head_lines a ++ (codes "\r\n" ++ body_sent a head_only)
unfolding reply
open_reply a head_only = refl

closing_fields : (a : Answer) → fields a true ≡ fields a false ++ codes "Connection: close" ∷ []
unfolding close_lines
closing_fields a = simp (append_assoc, append-nil)

closing_lines : (a : Answer) → flat_map ended (status_line a.status ∷ fields a true) ≡ head_lines a ++ ended (codes "Connection: close")
closing_lines a =
    ap (λ l. flat_map ended (status_line a.status ∷ l)) (closing_fields a)
    ∙ (flat_map-append ended (status_line a.status ∷ fields a false) (codes "Connection: close" ∷ [])
    ∙ ap (λ l. head_lines a ++ l) (append-nil (ended (codes "Connection: close"))))

-- one after which it closes has one line more
pub closing_reply : (a : Answer) (head_only : Bool)
    → reply a head_only true ≡ (head_lines a ++ ended (codes "Connection: close")) ++ (codes "\r\n" ++ body_sent a head_only)
unfolding reply
closing_reply a head_only = ap (λ l. l ++ (codes "\r\n" ++ body_sent a head_only)) (closing_lines a)

-- with the head only, no body is sent
pub no_body : (a : Answer) → body_sent a true ≡ []
no_body a = elim (a.status == 304) as (λ b. (if (b || true) then [] else a.body) ≡ []) [ true ↦ refl | false ↦ refl ]

both_ends : (lines body : List ℕ)
    → (lines ++ codes "Connection: close\r\n\r\n") ++ body ≡ (lines ++ ended (codes "Connection: close")) ++ (codes "\r\n" ++ body)
both_ends lines body = simp append_assoc

pub closes : (a : Answer) (head_only : Bool)
    → (head_lines a ++ codes "Connection: close\r\n\r\n") ++ body_sent a head_only ≡ reply a head_only true
closes a head_only = both_ends (head_lines a) (body_sent a head_only) ∙ sym (closing_reply a head_only)

-- a body is written unless the status is 304
is_304 : (n : ℕ) → n ≡ 304 → (n == 304) ≡ true
is_304 n s = rw s refl

is_not_304 : (n : ℕ) → (n ≡ 304 → ⊥) → (n == 304) ≡ false
is_not_304 n s = (elim (n == 304) as (λ b. (n == 304) ≡ b → b ≡ false) [
  | true ↦ λ t. absurd (s (eqb-true n 304 t))
  | false ↦ λ t. refl
]) refl

unwritten : (a : Answer) → a.status ≡ 304 → body_sent a false ≡ []
unwritten a s = ap (λ b. if (b || false) then [] else a.body) (is_304 a.status s)

pub written : (a : Answer) → (a.status ≡ 304 → ⊥) → body_sent a false ≡ a.body
written a s = ap (λ b. if (b || false) then [] else a.body) (is_not_304 a.status s)

-- ---- where the lines end and the body begins

module _ (a : Answer) (head_only : Bool) (bytes : List ℕ) (head : ℕ) (e : bytes ≡ reply a head_only false) (h : head ≡ length (head_lines a) + 2) where
  parts : bytes ≡ head_lines a ++ (codes "\r\n" ++ body_sent a head_only)
  parts = e ∙ open_reply a head_only

  pub body_after : drop head bytes ≡ body_sent a head_only
  body_after =
      ap (λ n. drop n bytes) h
      ∙ (ap (drop (length (head_lines a) + 2)) parts ∙ drop-append-add (head_lines a) (codes "\r\n" ++ body_sent a head_only) 2)

  pub head_part : take head bytes ≡ reply a true false
  head_part =
      ap (λ n. take n bytes) h
      ∙ (ap (take (length (head_lines a) + 2)) parts
      ∙ (take-append-add (head_lines a) (codes "\r\n" ++ body_sent a head_only) 2
      ∙ sym (open_reply a true ∙ ap (λ l. head_lines a ++ (codes "\r\n" ++ l)) (no_body a))))

  lines_end : head - 2 ≡ length (head_lines a)
  lines_end = omega (arith, h)

  pub lines_before : take (head - 2) bytes ≡ head_lines a
  lines_before =
      ap (λ n. take n bytes) lines_end
      ∙ (ap (take (length (head_lines a))) parts ∙ take-append_seam (head_lines a) (codes "\r\n" ++ body_sent a head_only))

  sizes : length bytes ≡ length (head_lines a) + length (codes "\r\n" ++ body_sent a head_only)
  sizes = ap length parts ∙ length-append (head_lines a) (codes "\r\n" ++ body_sent a head_only)

  after_lines : length (codes "\r\n" ++ body_sent a head_only) ≡ 2 + length (body_sent a head_only)
  after_lines = length-append (codes "\r\n") (body_sent a head_only)

  pub fits : head ≤ length bytes
  fits = omega (arith, h, sizes, after_lines)

  pub is_long : 2 ≤ head
  is_long = omega (arith, h)

  pub body_size : length bytes ≡ head + length (body_sent a head_only)
  body_size = omega (arith, h, sizes, after_lines)

-- ---- an answer and the head that was made of it

module _ (a : Answer) (front : List ℕ) (e : front ≡ reply a true false) (status : IsAnswerStatus a.status) where
  front_is : front ≡ head_lines a ++ codes "\r\n"
  front_is = e ∙ (open_reply a true ∙ ap (λ l. head_lines a ++ (codes "\r\n" ++ l)) (no_body a))

  front_size : length front ≡ length (head_lines a) + 2
  front_size = ap length front_is ∙ length-append (head_lines a) (codes "\r\n")

  ready_by : (rest : Answer) (bytes : List ℕ) → rest.status ≡ a.status → answer_in rest bytes (length front) ≡ a → bytes ≡ reply a false false
      → IsReady rest bytes (length front)
  ready_by rest bytes same is written_is = record {
    status = subst IsAnswerStatus (sym same) status;
    is = written_is ∙ ap (λ x. reply x false false) (sym is);
    begins = front_size ∙ ap (λ x. length (head_lines x) + 2) (sym is);
  }

  -- with status 304 all of it is head
  module _ (s : a.status ≡ 304) where
    pub all_is : answer_in a front (length front) ≡ a
    all_is = ap (λ b. record a { body = if b then a.body else drop (length front) front }) (is_304 a.status s)

    pub all_ready : IsReady a front (length front)
    all_ready =
        ready_by a front refl all_is
        (front_is ∙ sym (open_reply a false ∙ ap (λ l. head_lines a ++ (codes "\r\n" ++ l)) (unwritten a s)))

  -- with another the body stands at the end
  module _ (s : a.status ≡ 304 → ⊥) where
    joined : front ++ a.body ≡ reply a false false
    joined =
        ap (λ l. l ++ a.body) front_is
        ∙ (append_assoc (head_lines a) (codes "\r\n") a.body
        ∙ sym (open_reply a false ∙ ap (λ l. head_lines a ++ (codes "\r\n" ++ l)) (written a s)))

    pub rest_is : answer_in (record a { body = [] }) (front ++ a.body) (length front) ≡ a
    rest_is =
        ap (λ b. record a { body = if b then [] else drop (length front) (front ++ a.body) }) (is_not_304 a.status s)
        ∙ ap (λ l. record a { body = l }) (drop-append_seam front a.body)

    pub rest_ready : IsReady (record a { body = [] }) (front ++ a.body) (length front)
    rest_ready = ready_by (record a { body = [] }) (front ++ a.body) refl rest_is joined
