-- Bytes after their length are parted from what follows them in one way.
use Rattle.std.proofs.Common.{◌≡◌, ℕ, ◌<◌, ◌^◌, List, [], ◌∷◌, ◌++◌, length, take, drop, refl, sym, ap, ◌∙◌, map, arith, append_assoc}
use Rattle.std.specs.Int.{to_be_bytes, from_be_bytes, w32}
use Rattle.std.specs.List.{AllByRecursion, concat}
use Rattle.std.proofs.Math.Seq.{take-append_seam, drop-append_seam}
use Rattle.std.proofs.lemmas.Nat.{from_be_bytes-to_be_bytes_4}
use Rattle.td_base.specs.Sized.{sized}

-- two fronts of one length
pub record HasSameFront (a b x y : List ℕ) : Type 0 where
  pub front : a ≡ b
  pub rest : x ≡ y

pub parted : (a b x y : List ℕ) → length a ≡ length b → a ++ x ≡ b ++ y → HasSameFront a b x y
parted a b x y n e = record {
  front = sym (take-append_seam a x) ∙ ap (take (length a)) e ∙ ap (λ k. take k (b ++ y)) n ∙ take-append_seam b y;
  rest = sym (drop-append_seam a x) ∙ ap (drop (length a)) e ∙ ap (λ k. drop k (b ++ y)) n ∙ drop-append_seam b y;
}

-- a number in four bytes
pub record HasSameNumber (m n : ℕ) (x y : List ℕ) : Type 0 where
  pub number : m ≡ n
  pub rest : x ≡ y

pub numbers_parted : (m n : ℕ) (x y : List ℕ) → m < 2 ^ 32 → n < 2 ^ 32 → to_be_bytes w32 m ++ x ≡ to_be_bytes w32 n ++ y → HasSameNumber m n x y
numbers_parted m n x y hm hn e =
    let two = parted (to_be_bytes w32 m) (to_be_bytes w32 n) x y refl e in
    record {
      number = sym (from_be_bytes-to_be_bytes_4 m hm) ∙ ap (from_be_bytes w32) two.front ∙ from_be_bytes-to_be_bytes_4 n hn;
      rest = two.rest;
    }

-- bytes after their length
pub sized_parted : (a b x y : List ℕ) → length a < 2 ^ 32 → length b < 2 ^ 32 → sized a ++ x ≡ sized b ++ y → HasSameFront a b x y
sized_parted a b x y ha hb e =
    let one = numbers_parted (length a) (length b) (a ++ x) (b ++ y) ha hb
    (sym (append_assoc (to_be_bytes w32 (length a)) a x) ∙ e ∙ append_assoc (to_be_bytes w32 (length b)) b y) in
    parted a b x y one.number one.rest

-- texts, each after its length
pub record HasSameTexts (ps qs : List (List ℕ)) (x y : List ℕ) : Type 0 where
  pub texts : ps ≡ qs
  pub rest : x ≡ y

abbrev AreShort : List (List ℕ) → Type 0
AreShort = AllByRecursion (λ a. length a < 2 ^ 32)

pub texts_parted : (ps qs : List (List ℕ)) (x y : List ℕ) → length ps ≡ length qs → AreShort ps → AreShort qs
    → concat (map sized ps) ++ x ≡ concat (map sized qs) ++ y → HasSameTexts ps qs x y
texts_parted [] [] x y n ha hb e = record { texts = refl; rest = e }
texts_parted [] (b ∷ qs) x y n ha hb e = absurd (omega (arith, n))
texts_parted (a ∷ ps) [] x y n ha hb e = absurd (omega (arith, n))
texts_parted (a ∷ ps) (b ∷ qs) x y n ha hb e =
    let one = sized_parted a b (concat (map sized ps) ++ x) (concat (map sized qs) ++ y) ha.0 hb.0
    (sym (append_assoc (sized a) (concat (map sized ps)) x) ∙ e ∙ append_assoc (sized b) (concat (map sized qs)) y) in
    let more = texts_parted ps qs x y (omega arith) ha.1 hb.1 one.rest in
    record { texts = ap (λ t. t ∷ ps) one.front ∙ ap (λ ts. b ∷ ts) more.texts; rest = more.rest }

-- digests, each of one length
pub joined_parted : (k : ℕ) (ps qs : List (List ℕ)) → length ps ≡ length qs → AllByRecursion (λ a. length a ≡ k) ps → AllByRecursion (λ b. length b ≡ k) qs
    → concat ps ≡ concat qs → ps ≡ qs
joined_parted k [] [] n ha hb e = refl
joined_parted k [] (b ∷ qs) n ha hb e = absurd (omega (arith, n))
joined_parted k (a ∷ ps) [] n ha hb e = absurd (omega (arith, n))
joined_parted k (a ∷ ps) (b ∷ qs) n ha hb e =
    let one = parted a b (concat ps) (concat qs) (ha.0 ∙ sym hb.0) e in
    ap (λ t. t ∷ ps) one.front ∙ ap (λ ts. b ∷ ts) (joined_parted k ps qs (omega arith) ha.1 hb.1 one.rest)
