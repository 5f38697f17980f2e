-- What is hashed (SHA-256, FIPS 180-4) for the tag of a zone and for the token of a place.
use Rattle.std.specs.Prelude.{ℕ, List, ◌∷◌, ◌++◌, length, take, map, replicate, decimal}
use Rattle.std.specs.List.{concat, fold}
use Rattle.std.specs.Int.{to_be_bytes, w32}
use Rattle.sha2.specs.Sha256.{sha256}
use Rattle.hex.specs.Hex.{encode_lower}
use Rattle.td_base.specs.Sized.{sized}
use Rattle.td_civil.specs.Calendar.{text_of}
use Rattle.catalogue.specs.Releases.{ContentData, ReleaseData, leap_file, leap_expiry}

-- the bytes that stand for a content: identifier, aliases and file, each after its length
unfoldable pub content_bytes : ContentData → List ℕ
content_bytes c =
    sized c.tzid ++ to_be_bytes w32 (length c.aliases) ++ concat (map sized c.aliases)
    ++ sized c.file

unfoldable pub content_digest : ContentData → List ℕ
content_digest c = sha256 (content_bytes c)

-- the tag of a content: the first 32 hex digits of its digest
unfoldable pub tag_of : ContentData → List ℕ
tag_of c = take 32 (encode_lower (content_digest c))

-- the bytes that stand for a release after the chain value of the place before it
unfoldable pub link_bytes : List ℕ → ReleaseData → List ℕ
link_bytes before r =
    before ++ sized (text_of r.stamp) ++ sized r.publisher ++ sized r.version
    ++ sized (leap_file r.leaps) ++ sized (leap_expiry r.leaps)
    ++ to_be_bytes w32 (length r.contents) ++ concat (map content_digest r.contents)

-- the chain value of the place of a release, from that of the place before it
unfoldable pub linked : List ℕ → ReleaseData → List ℕ
linked before r = sha256 (link_bytes before r)

-- the chain value of the last place of the releases: 32 zero bytes for none
unfoldable pub chain_of : List ReleaseData → List ℕ
chain_of releases = fold linked (replicate 32 0) releases

-- the token of a place: its number, a dash, and the first 16 hex digits of its chain value
unfoldable pub token_text : ℕ → List ℕ → List ℕ
token_text n chain = decimal n ++ 45 ∷ take 16 (encode_lower chain)
