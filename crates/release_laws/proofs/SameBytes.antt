-- What is hashed for a tag and for a token is that of one content, and of one release.
use Rattle.std.proofs.Common.{◌≡◌, ℕ, ℤ, List, [], ◌∷◌, ◌++◌, length, refl, sym, ap, ◌∙◌, map, arith, append_assoc, Some}
use Rattle.std.specs.Int.{to_be_bytes, w32}
use Rattle.std.specs.List.{AllByRecursion, concat}
use Rattle.std.proofs.lemmas.List.{length-map, append-nil}
use Rattle.sha2.proofs.Facts256.{length-sha256}
use Rattle.jiff_core.proofs.SignedLemmas.{signed_arith}
use Rattle.td_base.specs.Sized.{sized}
use Rattle.td_civil.specs.Bounds.{HasMeaning, HasText}
use Rattle.td_civil.specs.Calendar.{text_of}
use Rattle.td_civil.specs.Reading.{moment_in}
use Rattle.td_civil.proofs.lemmas.Shown.{reads_back_lem}
use Rattle.catalogue.specs.Releases.{ContentData, ReleaseData, IsShort, leap_file, leap_expiry}
use Rattle.catalogue.specs.Digests.{content_bytes, content_digest, link_bytes}
use Rattle.release_laws.specs.Covered.{HasLinkLengths, IsSameLink}
use Rattle.release_laws.proofs.Sized.{numbers_parted, sized_parted, texts_parted, parted, joined_parted}

abbrev content : List ℕ → List (List ℕ) → List ℕ → ContentData
content tzid aliases file = record { tzid = tzid; aliases = aliases; file = file }

-- what is hashed of a content after its identifier
abbrev aliases_and_file : ContentData → List ℕ
aliases_and_file c = concat (map sized c.aliases) ++ sized c.file

abbrev after_tzid : ContentData → List ℕ
after_tzid c = to_be_bytes w32 (length c.aliases) ++ aliases_and_file c

content_parts : (c : ContentData) → content_bytes c ≡ sized c.tzid ++ after_tzid c
unfolding content_bytes
content_parts c = simp append_assoc

pub same_contents : (c d : ContentData) → IsShort c → IsShort d → content_bytes c ≡ content_bytes d → c ≡ d
same_contents c d hc hd e =
    let one = sized_parted c.tzid d.tzid (after_tzid c) (after_tzid d) hc.tzid hd.tzid (sym (content_parts c) ∙ e ∙ content_parts d) in
    let two = numbers_parted (length c.aliases) (length d.aliases) (aliases_and_file c) (aliases_and_file d) hc.count hd.count one.rest in
    let three = texts_parted c.aliases d.aliases (sized c.file) (sized d.file) two.number hc.aliases hd.aliases two.rest in
    let four = sized_parted c.file d.file [] [] hc.file hd.file (append-nil (sized c.file) ∙ three.rest ∙ sym (append-nil (sized d.file))) in
    ap (λ (x : List ℕ). content x c.aliases c.file) one.front ∙ ap (λ (x : List (List ℕ)). content d.tzid x c.file) three.texts
    ∙ ap (λ (x : List ℕ). content d.tzid d.aliases x) four.front

text_length : (m : ℤ) → length (text_of m) ≡ 20
unfolding text_of
text_length m = refl

some_inj : (m n : ℤ) → Some m ≡ Some n → m ≡ n
some_inj m n e = cc

has_text : (m : ℤ) → HasMeaning m → HasText m
has_text m h = (omega (arith, signed_arith), omega (arith, signed_arith))

-- the text of a moment is that of no other
one_stamp : (m n : ℤ) → HasMeaning m → HasMeaning n → text_of m ≡ text_of n → m ≡ n
one_stamp m n hm hn e = some_inj m n (sym (reads_back_lem m (has_text m hm)) ∙ ap moment_in e ∙ reads_back_lem n (has_text n hn))

digest_lengths : (cs : List ContentData) → AllByRecursion (λ d. length d ≡ 32) (map content_digest cs)
unfolding content_digest
digest_lengths [] = tt
digest_lengths (c ∷ cs) = (length-sha256 (content_bytes c), digest_lengths cs)

-- what is hashed of a release after each of its fields
abbrev from_digests : ReleaseData → List ℕ
from_digests r = concat (map content_digest r.contents)

abbrev from_count : ReleaseData → List ℕ
from_count r = to_be_bytes w32 (length r.contents) ++ from_digests r

abbrev from_expiry : ReleaseData → List ℕ
from_expiry r = sized (leap_expiry r.leaps) ++ from_count r

abbrev from_leaps : ReleaseData → List ℕ
from_leaps r = sized (leap_file r.leaps) ++ from_expiry r

abbrev from_version : ReleaseData → List ℕ
from_version r = sized r.version ++ from_leaps r

abbrev from_publisher : ReleaseData → List ℕ
from_publisher r = sized r.publisher ++ from_version r

abbrev from_stamp : ReleaseData → List ℕ
from_stamp r = sized (text_of r.stamp) ++ from_publisher r

link_parts : (a : List ℕ) (r : ReleaseData) → link_bytes a r ≡ a ++ from_stamp r
unfolding link_bytes
link_parts a r = simp append_assoc

pub same_links : (a b : List ℕ) (r s : ReleaseData) → HasLinkLengths a r → HasLinkLengths b s → link_bytes a r ≡ link_bytes b s → IsSameLink a r b s
same_links a b r s ha hb e =
    let p = ha.release in let q = hb.release in
    let one = parted a b (from_stamp r) (from_stamp s) (ha.chain ∙ sym hb.chain) (sym (link_parts a r) ∙ e ∙ link_parts b s) in
    let two = sized_parted (text_of r.stamp) (text_of s.stamp) (from_publisher r) (from_publisher s) (omega (arith, text_length r.stamp)) (omega (arith, text_length s.stamp)) one.rest in
    let three = sized_parted r.publisher s.publisher (from_version r) (from_version s) p.publisher q.publisher two.rest in
    let four = sized_parted r.version s.version (from_leaps r) (from_leaps s) p.version q.version three.rest in
    let five = sized_parted (leap_file r.leaps) (leap_file s.leaps) (from_expiry r) (from_expiry s) p.leap_file q.leap_file four.rest in
    let six = sized_parted (leap_expiry r.leaps) (leap_expiry s.leaps) (from_count r) (from_count s) p.leap_expiry q.leap_expiry five.rest in
    let seven = numbers_parted (length r.contents) (length s.contents) (from_digests r) (from_digests s) ha.count hb.count six.rest in
    let digests = joined_parted 32 (map content_digest r.contents) (map content_digest s.contents)
    (length-map r.contents content_digest ∙ seven.number ∙ sym (length-map s.contents content_digest)) (digest_lengths r.contents) (digest_lengths s.contents) seven.rest in
    record {
      before = one.front;
      stamp = one_stamp r.stamp s.stamp p.stamp q.stamp two.front;
      publisher = three.front;
      version = four.front;
      leap_file = five.front;
      leap_expiry = six.front;
      digests = digests;
    }
