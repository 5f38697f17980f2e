-- Two histories with one chain value, or with one token, are one.
use Rattle.std.proofs.Common.{◌≡◌, false, true, ℕ, zero, suc, ◌<◌, ◌≤◌, ◌^◌, ℤ, Option, None, Some, List, [], ◌∷◌, ◌++◌, length, length-take, take, inl, inr}
use Rattle.std.proofs.Common.{refl, sym, ap, ap₂, ◌∙◌, subst, map, arith, append_assoc}
use Rattle.std.specs.List.{AllByRecursion, fold}
use Rattle.std.specs.Fmt.{decimal}
use Rattle.std.specs.Option.{IfSome}
use Rattle.std.proofs.lemmas.List.{append_cancel_left}
use Rattle.sha2.specs.Sha256.{sha256}
use Rattle.sha2.proofs.Facts256.{length-sha256}
use Rattle.td_civil.specs.Reading.{is_date_text}
use Rattle.catalogue.specs.Releases.{ContentData, ReleaseData, IsShort, leap_file, leap_expiry}
use Rattle.catalogue.specs.Digests.{chain_of, content_bytes, content_digest, link_bytes, linked, token_text}
use Rattle.catalogue.specs.Histories.{IsHistory, IsRelease, token_of}
use Rattle.catalogue.specs.declared.limits.TheConstants.{MOST_NAMES}
use Rattle.catalogue.specs.declared.release.Leaps.{Leaps}
use Rattle.catalogue.specs.declared.release.LeapStep.{LeapStep}
use Rattle.tzif_reader.specs.Cut.{lists_of}
use Rattle.tzif_reader.specs.LeapSteps.{leap_steps}
use Rattle.zone_meaning.specs.Lengths.{sound_lengths}
use Rattle.zone_meaning.specs.Sound.{IsSound, IsSoundLeaps}
use Rattle.zone_meaning.proofs.lemmas.Members.{member_first, member_later}
use Rattle.release_laws.specs.Covered.{IsSameLink}
use Rattle.release_laws.specs.Hashed.{IsOfContents, IsHashedAfter, shown_of, AreApartByDigest}
use Rattle.release_laws.proofs.SameBytes.{same_contents, same_links}
use Rattle.release_laws.proofs.Short.{short_contents}

-- ---- one release

-- what is used of a release of a history
record IsWhole (r : ReleaseData) : Type 0 where
  sound : IsSound r
  count : length r.contents < 2 ^ 32
  short : AllByRecursion IsShort r.contents

is_whole : (before : List ReleaseData) (r : ReleaseData) → IsRelease IsSound before r → IsWhole r
is_whole before r is = record {
  sound = is.is_sound;
  count = (let few = is.fits.zones in omega arith);
  short = short_contents MOST_NAMES r.contents (omega arith) is.fits.identifiers is.fits.names (sound_lengths r is.is_sound).files;
}

all_whole : (sofar H : List ReleaseData) → IsHistory IsSound (sofar ++ H) → AllByRecursion IsWhole H
all_whole sofar [] is = tt
all_whole sofar (r ∷ rs) is = (
  is_whole sofar r (is sofar r rs refl),
  all_whole (sofar ++ r ∷ []) rs (subst (IsHistory IsSound) (sym (append_assoc sofar (r ∷ []) rs)) is),
)

-- ---- the table of leap seconds

abbrev both : LeapStep → ℤ × ℤ
both s = (s.day, s.offset)

pair_is : (s t : LeapStep) → both s ≡ both t → s ≡ t
pair_is s t e =
    let day : s.day ≡ t.day = ap (λ (p : ℤ × ℤ). p.0) e in
    let offset : s.offset ≡ t.offset = ap (λ (p : ℤ × ℤ). p.1) e in
    ap₂ (λ (d o : ℤ). let made : LeapStep = record { day = d; offset = o } in made) day offset

steps_are : (xs ys : List LeapStep) → map both xs ≡ map both ys → xs ≡ ys
steps_are [] [] e = refl
steps_are [] (y ∷ ys) e = absurd (cc)
steps_are (x ∷ xs) [] e = absurd (cc)
steps_are (x ∷ xs) (y ∷ ys) e = ap₂ (λ s ss. s ∷ ss) (pair_is x y (cc)) (steps_are xs ys (cc))

no_date : is_date_text [] ≡ false
unfolding is_date_text
no_date = refl

abbrev table : List ℕ → List ℕ → List LeapStep → Leaps
table file expires steps = record { file = file; expires = expires; steps = steps }

same_table : (a b : Option Leaps) → IfSome a IsSoundLeaps → IfSome b IsSoundLeaps → leap_file a ≡ leap_file b → leap_expiry a ≡ leap_expiry b → a ≡ b
same_table None None ha hb file expiry = refl
same_table None (Some b) ha hb file expiry = absurd (let none : is_date_text [] ≡ true = ap is_date_text expiry ∙ hb.expires in let no = no_date in cc)
same_table (Some a) None ha hb file expiry =
    absurd (let none : is_date_text [] ≡ true = ap is_date_text (sym expiry) ∙ ha.expires in let no = no_date in cc)
same_table (Some a) (Some b) ha hb file expiry =
    let steps = steps_are a.steps b.steps (ha.steps ∙ ap (λ (f : List ℕ). leap_steps (lists_of f).leaps) file ∙ sym hb.steps) in
    ap Some (ap (λ (f : List ℕ). table f a.expires a.steps) file ∙ ap (λ (x : List ℕ). table b.file x a.steps) expiry ∙ ap (λ (x : List LeapStep). table b.file b.expires x) steps)

-- ---- contents

-- the texts of two rows of contents are apart
abbrev AreContentsApart : List ContentData → List ContentData → Type 0
AreContentsApart cs ds = (a b : List ℕ) → IsOfContents cs a → IsOfContents ds b → sha256 a ≡ sha256 b → a ≡ b

contents_are : (cs ds : List ContentData) → AllByRecursion IsShort cs → AllByRecursion IsShort ds → AreContentsApart cs ds
    → map content_digest cs ≡ map content_digest ds → cs ≡ ds
unfolding content_digest
contents_are [] [] hc hd apart e = refl
contents_are [] (d ∷ ds) hc hd apart e = absurd (cc)
contents_are (c ∷ cs) [] hc hd apart e = absurd (cc)
contents_are (c ∷ cs) (d ∷ ds) hc hd apart e =
    let digest : sha256 (content_bytes c) ≡ sha256 (content_bytes d) = cc in
    let first = apart (content_bytes c) (content_bytes d) (c, member_first c cs, refl) (d, member_first d ds, refl) digest in
    let rest = contents_are cs ds hc.1 hd.1
    (λ a b ha hb same. apart a b (ha.0, member_later c ha.0 cs ha.1, ha.2) (hb.0, member_later d hb.0 ds hb.1, hb.2) same) (cc) in
    ap₂ (λ x xs. x ∷ xs) (same_contents c d hc.0 hd.0 first) rest

-- ---- a row of releases

abbrev release : ℤ → List ℕ → List ℕ → List ContentData → Option Leaps → ReleaseData
release stamp publisher version contents leaps =
    record { stamp = stamp; publisher = publisher; version = version; contents = contents; leaps = leaps }

release_is : (a b : List ℕ) (r s : ReleaseData) → IsSameLink a r b s → r.contents ≡ s.contents → r.leaps ≡ s.leaps → r ≡ s
release_is a b r s link contents leaps =
    ap (λ (x : ℤ). release x r.publisher r.version r.contents r.leaps) link.stamp
    ∙ ap (λ (x : List ℕ). release s.stamp x r.version r.contents r.leaps) link.publisher
    ∙ ap (λ (x : List ℕ). release s.stamp s.publisher x r.contents r.leaps) link.version
    ∙ ap (λ (x : List ContentData). release s.stamp s.publisher s.version x r.leaps) contents
    ∙ ap (λ (x : Option Leaps). release s.stamp s.publisher s.version s.contents x) leaps

abbrev AreApartAfter : List ℕ → List ℕ → List ReleaseData → List ReleaseData → Type 0
AreApartAfter a b rs ss = (x y : List ℕ) → IsHashedAfter a rs x → IsHashedAfter b ss y → sha256 x ≡ sha256 y → x ≡ y

record IsSameRow (a b : List ℕ) (rs ss : List ReleaseData) : Type 0 where
  chain : a ≡ b
  releases : rs ≡ ss

linked_length : (a : List ℕ) (r : ReleaseData) → length (linked a r) ≡ 32
unfolding linked
linked_length a r = length-sha256 (link_bytes a r)

digest_of_link : (a b : List ℕ) (r s : ReleaseData) → linked a r ≡ linked b s → sha256 (link_bytes a r) ≡ sha256 (link_bytes b s)
unfolding linked
digest_of_link a b r s e = e

same_row : (a b : List ℕ) (rs ss : List ReleaseData) → length a ≡ 32 → length b ≡ 32 → AllByRecursion IsWhole rs → AllByRecursion IsWhole ss
    → AreApartAfter a b rs ss → length rs ≡ length ss → fold linked a rs ≡ fold linked b ss → IsSameRow a b rs ss
same_row a b [] [] la lb hr hs apart n e = record { chain = e; releases = refl }
same_row a b [] (s ∷ ss) la lb hr hs apart n e = absurd (omega (arith, n))
same_row a b (r ∷ rs) [] la lb hr hs apart n e = absurd (omega (arith, n))
same_row a b (r ∷ rs) (s ∷ ss) la lb hr hs apart n e =
    let rest = same_row (linked a r) (linked b s) rs ss (linked_length a r) (linked_length b s) hr.1 hs.1
    (λ x y hx hy same. apart x y (inr (inr hx)) (inr (inr hy)) same) (omega arith) e in
    let bytes = apart (link_bytes a r) (link_bytes b s) (inl refl) (inl refl) (digest_of_link a b r s rest.chain) in
    let link = same_links a b r s (record { chain = la; release = sound_lengths r hr.0.sound; count = hr.0.count })
    (record { chain = lb; release = sound_lengths s hs.0.sound; count = hs.0.count }) bytes in
    let contents = contents_are r.contents s.contents hr.0.short hs.0.short (λ x y hx hy same. apart x y (inr (inl hx)) (inr (inl hy)) same) link.digests in
    let leaps = same_table r.leaps s.leaps hr.0.sound.leaps hs.0.sound.leaps link.leap_file link.leap_expiry in
    record { chain = link.before; releases = ap₂ (λ x xs. x ∷ xs) (release_is a b r s link contents leaps) rest.releases }

-- ---- whole histories

first_length : length (chain_of []) ≡ 32
unfolding chain_of
first_length = refl

chain_folds : (H : List ReleaseData) → chain_of H ≡ fold linked (chain_of []) H
unfolding chain_of
chain_folds H = refl

pub same_chains : (G H : List ReleaseData) → IsHistory IsSound G → IsHistory IsSound H → AreApartByDigest G H → length G ≡ length H → chain_of G ≡ chain_of H → G ≡ H
same_chains G H g h apart n e =
    (same_row (chain_of []) (chain_of []) G H first_length first_length (all_whole [] G g) (all_whole [] H h)
    (λ x y hx hy same. apart x y hx hy (ap shown_of same)) n (sym (chain_folds G) ∙ e ∙ chain_folds H)).releases

-- ---- tokens

-- the last chain value is the digest of what is hashed for the last release
record IsLinked (a : List ℕ) (rs : List ReleaseData) : Type 0 where
  text : List ℕ
  hashed : IsHashedAfter a rs text
  digest : fold linked a rs ≡ sha256 text

link_digest : (a : List ℕ) (r : ReleaseData) → linked a r ≡ sha256 (link_bytes a r)
unfolding linked
link_digest a r = refl

last_link : (a : List ℕ) (r : ReleaseData) (rs : List ReleaseData) → IsLinked a (r ∷ rs)
last_link a r [] = record { text = link_bytes a r; hashed = inl refl; digest = link_digest a r }
last_link a r (s ∷ ss) =
    let rest = last_link (linked a r) s ss in
    record { text = rest.text; hashed = inr (inr rest.hashed); digest = rest.digest }

hashed_of_more : (n : ℕ) (a : List ℕ) (rs : List ReleaseData) (text : List ℕ) → IsHashedAfter a (take n rs) text → IsHashedAfter a rs text
hashed_of_more zero a rs text h = absurd h
hashed_of_more (suc n) a [] text h = h
hashed_of_more (suc n) a (r ∷ rs) text (inl link) = inl link
hashed_of_more (suc n) a (r ∷ rs) text (inr (inl content)) = inr (inl content)
hashed_of_more (suc n) a (r ∷ rs) text (inr (inr later)) = inr (inr (hashed_of_more n (linked a r) rs text later))

whole_part : (n : ℕ) (rs : List ReleaseData) → AllByRecursion IsWhole rs → AllByRecursion IsWhole (take n rs)
whole_part zero rs all = tt
whole_part (suc n) [] all = tt
whole_part (suc n) (r ∷ rs) all = (all.0, whole_part n rs all.1)

shown_by : (n : ℕ) (a b : List ℕ) → token_text n a ≡ token_text n b → shown_of a ≡ shown_of b
unfolding token_text
shown_by n a b e =
    let rest : (45 ∷ shown_of a) ≡ (45 ∷ shown_of b) = append_cancel_left (decimal n) (45 ∷ shown_of a) (45 ∷ shown_of b) e in
    cc

same_parts : (n : ℕ) (rs ss : List ReleaseData) → length rs ≡ n → length ss ≡ n → AllByRecursion IsWhole rs → AllByRecursion IsWhole ss → AreApartByDigest rs ss
    → token_text n (chain_of rs) ≡ token_text n (chain_of ss) → rs ≡ ss
same_parts n [] [] nr ns hr hs apart e = refl
same_parts n [] (s ∷ ss) nr ns hr hs apart e = absurd (omega (arith, nr, ns))
same_parts n (r ∷ rs) [] nr ns hr hs apart e = absurd (omega (arith, nr, ns))
same_parts n (r ∷ rs) (s ∷ ss) nr ns hr hs apart e =
    let one = last_link (chain_of []) r rs in
    let two = last_link (chain_of []) s ss in
    let first = chain_folds (r ∷ rs) ∙ one.digest in
    let second = chain_folds (s ∷ ss) ∙ two.digest in
    let shown = shown_by n (chain_of (r ∷ rs)) (chain_of (s ∷ ss)) e in
    let text = apart one.text two.text one.hashed two.hashed (sym (ap shown_of first) ∙ shown ∙ ap shown_of second) in
    (same_row (chain_of []) (chain_of []) (r ∷ rs) (s ∷ ss) first_length first_length hr hs
    (λ x y hx hy same. apart x y hx hy (ap shown_of same)) (nr ∙ sym ns) (one.digest ∙ ap sha256 text ∙ sym two.digest)).releases

token_texts : (G H : List ReleaseData) (m n : ℕ) → m ≡ n → token_of G m ≡ token_of H n → token_text n (chain_of (take m G)) ≡ token_text n (chain_of (take n H))
unfolding token_of
token_texts G H m n same e = ap (λ k. token_text k (chain_of (take m G))) (sym same) ∙ e

pub same_tokens : ((G H : List ReleaseData) (m n : ℕ) → m < 2 ^ 32 → n < 2 ^ 32 → token_of G m ≡ token_of H n → m ≡ n)
    → (G H : List ReleaseData) (m n : ℕ) → IsHistory IsSound G → IsHistory IsSound H → AreApartByDigest G H → m ≤ length G → n ≤ length H
    → m < 2 ^ 32 → n < 2 ^ 32 → token_of G m ≡ token_of H n → take m G ≡ take n H
same_tokens places G H m n g h apart lm ln hm hn e =
    let same = places G H m n hm hn e in
    same_parts n (take m G) (take n H) (omega (arith, length-take m G)) (omega (arith, length-take n H))
    (whole_part m G (all_whole [] G g)) (whole_part n H (all_whole [] H h))
    (λ x y hx hy shown. apart x y (hashed_of_more m (chain_of []) G x hx) (hashed_of_more n (chain_of []) H y hy) shown)
    (token_texts G H m n same e)
