-- A whole file: the layout and the cut agree.
use Rattle.std.proofs.Common.{◌≡◌, ℕ, ◌+◌, ◌<◌, ◌≤◌, true, List, [], ◌∷◌, ◌++◌, length, take, drop, Option, Some, None, Result, Ok, Err, refl, sym, ap, subst}
use Rattle.std.proofs.Common.{◌∙◌, arith}
use Rattle.std.specs.Prelude.{IfOk, OnOk, ◌↔◌}
use Rattle.std.specs.Bool.{nat_eq}
use Rattle.std.specs.List.{starts_with}
use Rattle.std.specs.Option.{unwrap_or}
use Rattle.std.proofs.lemmas.List.{take_at, drop_at, take-append-drop, length-append, length-drop}
use Rattle.tzif_reader.specs.declared.counts.Counts.{Counts}
use Rattle.tzif_reader.specs.declared.tzif_fault.TzifFault.{TzifFault}
use Rattle.tzif_reader.specs.declared.zone_file.ZoneFile.{ZoneFile}
use Rattle.tzif_reader.specs.Layout.{magic, AreCounts, IsVersion, IsZoneFile, IsHeader, first_block_size, second_block_size}
use Rattle.tzif_reader.specs.Cut.{Parts, piece, version_in, counts_in, parts_in, first_header, second_place, second_header, counts_of, block_place, parts_of}
use Rattle.tzif_reader.specs.Cut.{footer_of, zone_from, lists_of}
use Rattle.tzif_reader.specs.Faults.{frame_fault, contents_fault, footer_fault, first_fault}
use Rattle.td_base.proofs.lemmas.FaultLemmas.{first, second, neither}
use Rattle.tzif_reader.proofs.lemmas.Joined.{cut_at, field, length_piece}
use Rattle.tzif_reader.proofs.Headers.{header_is, header_cuts}
use Rattle.tzif_reader.proofs.Soundness.{AreSound, contents_none, none_contents}
use Rattle.tzif_reader.proofs.Blocks.{block_is}
use Rattle.tzif_reader.proofs.Cuts.{block_zone, block_sound, laid_size}
use Rattle.tzif_reader.proofs.Footers.{EndsIn, footer_none, found_footer, none_footer}
use Rattle.tzif_reader.proofs.Frames.{IsFramed, frame_none, none_frame}

onto : (a r s : List ℕ) → r ≡ s → a ++ r ≡ a ++ s
onto a r s h = ap (λ (t : List ℕ). a ++ t) h

pub zone_file_of : (bytes : List ℕ) → first_fault bytes ≡ None → IsZoneFile bytes (lists_of bytes)
unfolding first_fault counts_of block_place parts_of
zone_file_of bytes h =
    let framed = frame_none bytes (first _ _ h) in
    let rest = second (frame_fault bytes) _ h in
    let sound = contents_none (counts_of bytes) (parts_of bytes) (first _ _ rest) in
    let footer = footer_none bytes (second (contents_fault (counts_of bytes) (parts_of bytes)) _ rest) in
    let header : IsHeader (second_header bytes) (version_in (second_header bytes)) (counts_in (second_header bytes)) =
    header_is (second_header bytes) (length_piece (second_place bytes) 44 bytes framed.second_at.room) framed.second_at.starts in
    record {
      first_header = first_header bytes;
      first_block = piece 44 (first_block_size (counts_in (first_header bytes))) bytes;
      second_header = second_header bytes;
      second_block = piece (block_place bytes) (second_block_size (counts_of bytes)) bytes;
      version = version_in (first_header bytes);
      first_counts = counts_in (first_header bytes);
      counts = counts_of bytes;
      whole = sym (take-append-drop 44 bytes) ∙ onto _ _ _
          (cut_at 44 (first_block_size (counts_in (first_header bytes))) bytes
          ∙ onto _ _ _ (cut_at (second_place bytes) 44 bytes
          ∙ onto _ _ _ (cut_at (block_place bytes) (second_block_size (counts_of bytes)) bytes ∙ onto _ _ _ footer.whole)));
      size = framed.size;
      first_header_is = header_is (first_header bytes) (length_piece 0 44 bytes framed.first_at.room) framed.first_at.starts;
      version_is = framed.version;
      first_block_is = length_piece 44 (first_block_size (counts_in (first_header bytes))) bytes framed.first_room;
      second_header_is = subst (λ (v : ℕ). IsHeader (second_header bytes) v (counts_in (second_header bytes))) framed.same header;
      counts_are = framed.counts;
      second_block_is = block_is (counts_of bytes) (piece (block_place bytes) (second_block_size (counts_of bytes)) bytes) (unwrap_or (footer_of bytes) [])
          (length_piece (block_place bytes) (second_block_size (counts_of bytes)) bytes framed.second_room) framed.counts sound;
      footer_is = footer.clear;
    }

room_of : (bytes p rest : List ℕ) (place size : ℕ) → drop place bytes ≡ p ++ rest → length p ≡ size → 0 < length rest → place + size ≤ length bytes
room_of bytes p rest place size h len more = omega (arith, ap length h, length-drop place bytes, length-append p rest, len)

same_cut : (c d : Counts) (p q : Parts) (f : List ℕ) (o : Option (List ℕ)) (z : ZoneFile) → z ≡ zone_from d q f → c ≡ d → p ≡ q → o ≡ Some f
    → z ≡ zone_from c p (unwrap_or o [])
same_cut c d p q f o z k e g h = rw (e, g, h) k

pub same_sound : (c d : Counts) (p q : Parts) → AreSound d q → c ≡ d → p ≡ q → AreSound c p
same_sound c d p q k e g = rw (e, g) k

pub same_parts : (c d : Counts) (t u : List ℕ) → c ≡ d → t ≡ u → parts_in c t ≡ parts_in d u
same_parts c d t u e g = rw (e, g) refl

framed_of : (bytes : List ℕ) (z : ZoneFile) (is : IsZoneFile bytes z) → first_header bytes ≡ is.first_header → starts_with nat_eq is.first_header magic ≡ true
    → version_in is.first_header ≡ is.version → second_header bytes ≡ is.second_header → starts_with nat_eq is.second_header magic ≡ true
    → version_in is.second_header ≡ is.version → counts_of bytes ≡ is.counts → block_place bytes + second_block_size (counts_of bytes) ≤ length bytes
    → IsFramed bytes
unfolding block_place
framed_of bytes z is e1 s1 v1 e2 s2 v2 c2 room = record {
  size = is.size;
  first_at = record { room = omega (arith, room); starts = ap (λ (h : List ℕ). starts_with nat_eq h magic) e1 ∙ s1 };
  version = subst (λ (v : ℕ). IsVersion v) (sym (ap version_in e1 ∙ v1)) is.version_is;
  first_room = omega (arith, room);
  second_at = record { room = omega (arith, room); starts = ap (λ (h : List ℕ). starts_with nat_eq h magic) e2 ∙ s2 };
  same = ap version_in e2 ∙ (v2 ∙ sym (ap version_in e1 ∙ v1));
  counts = subst (λ (c : Counts). AreCounts c) (sym c2) is.counts_are;
  second_room = room;
}

-- what a zone file is, cut
pub record CutsZone (bytes : List ℕ) (z : ZoneFile) : Type 0 where
  pub no_fault : first_fault bytes ≡ None
  pub zone_is : z ≡ lists_of bytes

pub zone_file_cuts : (bytes : List ℕ) (z : ZoneFile) → IsZoneFile bytes z → CutsZone bytes z
unfolding first_fault counts_of block_place parts_of
zone_file_cuts bytes z is =
    let ending : List ℕ = 10 ∷ (z.footer ++ (10 ∷ [])) in
    let h1 = header_cuts is.first_header is.version is.first_counts is.first_header_is in
    let h2 = header_cuts is.second_header is.version is.counts is.second_header_is in
    let e1 : first_header bytes ≡ is.first_header = ap (take 44) is.whole ∙ take_at is.first_header _ 44 h1.size in
    let c1 : counts_in (first_header bytes) ≡ is.first_counts = ap counts_in e1 ∙ h1.counts_are in
    let r1 : drop 44 bytes ≡ is.first_block ++ (is.second_header ++ (is.second_block ++ (10 ∷ (z.footer ++ (10 ∷ []))))) =
    ap (drop 44) is.whole ∙ drop_at is.first_header _ 44 h1.size in
    let l1 : length is.first_block ≡ first_block_size (counts_in (first_header bytes)) = is.first_block_is ∙ ap first_block_size (sym c1) in
    let f2 = field bytes is.first_block (is.second_header ++ (is.second_block ++ (10 ∷ (z.footer ++ (10 ∷ []))))) 44
    (first_block_size (counts_in (first_header bytes))) r1 l1 in
    let f3 = field bytes is.second_header (is.second_block ++ (10 ∷ (z.footer ++ (10 ∷ [])))) (second_place bytes) 44 f2.1 h2.size in
    let c2 : counts_of bytes ≡ is.counts = ap counts_in f3.0 ∙ h2.counts_are in
    let l2 : length is.second_block ≡ second_block_size (counts_of bytes) = laid_size is.second_block is.counts z is.second_block_is
    ∙ ap second_block_size (sym c2) in
    let f4 = field bytes is.second_block (10 ∷ (z.footer ++ (10 ∷ []))) (block_place bytes) (second_block_size (counts_of bytes)) f3.1 l2 in
    let room : block_place bytes + second_block_size (counts_of bytes) ≤ length bytes =
    room_of bytes is.second_block (10 ∷ (z.footer ++ (10 ∷ []))) (block_place bytes) (second_block_size (counts_of bytes)) f3.1 l2 (omega arith) in
    let ends : EndsIn bytes z.footer = record { whole = f4.1; clear = is.footer_is } in
    let parts : parts_of bytes ≡ parts_in is.counts is.second_block = same_parts (counts_of bytes) is.counts _ is.second_block c2 f4.0 in
    let framed : IsFramed bytes = framed_of bytes z is e1 h1.starts h1.version_is f3.0 h2.starts h2.version_is c2 room in
    record {
      no_fault = neither (frame_fault bytes) _ (none_frame bytes framed)
          (neither (contents_fault (counts_of bytes) (parts_of bytes)) (footer_fault bytes)
          (none_contents (counts_of bytes) (parts_of bytes)
          (same_sound (counts_of bytes) is.counts (parts_of bytes) (parts_in is.counts is.second_block)
          (block_sound is.second_block is.counts z is.second_block_is) c2 parts)) (none_footer bytes z.footer ends));
      zone_is = same_cut (counts_of bytes) is.counts (parts_of bytes) (parts_in is.counts is.second_block) z.footer (footer_of bytes) z
          (block_zone is.second_block is.counts z is.second_block_is) c2 parts (found_footer bytes z.footer ends);
    }

-- ---- the laws

pub exactly_one : (bytes : List ℕ) → ((z : ZoneFile) × IsZoneFile bytes z) ↔ (first_fault bytes ≡ None)
exactly_one bytes = (λ h. (zone_file_cuts bytes h.0 h.1).no_fault, λ h. (lists_of bytes, zone_file_of bytes h))

pub only_one : (bytes : List ℕ) (y z : ZoneFile) → IsZoneFile bytes y → IsZoneFile bytes z → y ≡ z
only_one bytes y z p q = (zone_file_cuts bytes y p).zone_is ∙ sym (zone_file_cuts bytes z q).zone_is

pub is_found : (bytes : List ℕ) (r : Result ZoneFile TzifFault) → IfOk r (λ z. z ≡ lists_of bytes) → OnOk r (first_fault bytes ≡ None)
    → IfOk r (λ z. IsZoneFile bytes z)
is_found bytes (Ok z) same none = subst (λ (y : ZoneFile). IsZoneFile bytes y) (sym same) (zone_file_of bytes none)
is_found bytes (Err e) same none = tt
