-- The lines of an operator: what stands before each line feed, and what it asks for.
use Rattle.std.specs.Prelude.{◌≡◌, ℕ, ◌-◌, List, [], ◌∷◌, ◌++◌, length, take, drop, codes, Bool}
use Rattle.std.specs.Prelude.{◌==◌, nat_le, not, if◌then◌else◌, ⊤}
use Rattle.std.specs.Prelude.{ℤ, Option, None, Some}
use Rattle.std.specs.List.{list_any}
use Rattle.std.specs.Option.{option_map, option_map_or}
use Rattle.std.specs.Str.{bytes_eq}
use Rattle.td_base.specs.Names.{is_path_word}
use Rattle.td_civil.specs.declared.moment_type.TheConstants.{LO}
use Rattle.subscribers.specs.declared.wish.Wish.{Wish}
use Rattle.subscribers.specs.declared.wish.WishKind.TheVariants as kind
use Rattle.console.specs.Words.{is_beginning, meant_moment, number_in_word}
use Rattle.console.specs.declared.line.Line.{Line}
use Rattle.console.specs.declared.line.Line.TheVariants as line
use Rattle.console.specs.declared.line.TheConstants.{MOST_BYTES}

-- the text without one carriage return at its end
abbrev pub without_return : List ℕ → List ℕ
without_return text =
    if bytes_eq (drop (length text - 1) text) (13 ∷ [])
    then take (length text - 1) text
    else text

-- `install` and a space, and then the path of a folder
abbrev pub install_of : List ℕ → Line
install_of folder = if is_path_word folder then line.Install folder else line.Strange

-- wishes to hear of changes; what a kind does not ask for is empty, or 1800
abbrev pub every_change : Wish
every_change = record { kind = kind.Any; under = []; before = record { seconds = LO } }

abbrev pub changes_under : List ℕ → Wish
changes_under text = record { kind = kind.Under; under = text; before = record { seconds = LO } }

abbrev pub changes_before : ℤ → Wish
changes_before m = record { kind = kind.Past; under = []; before = record { seconds = m } }

-- `any`, `under` and a text with which identifiers may begin, or `past` and a moment
unfoldable pub wish_in : List ℕ → Option Wish
wish_in text =
    if bytes_eq text (codes "any") then Some every_change
    else if bytes_eq (take 6 text) (codes "under ")
    then (if is_beginning (drop 6 text) then Some (changes_under (drop 6 text)) else None)
    else if bytes_eq (take 5 text) (codes "past ")
    then option_map changes_before (meant_moment (drop 5 text))
    else None

-- the greatest number that a line may name
abbrev pub most_number : ℕ
most_number = 4_294_967_295

-- `watch` and a space, and then a wish
abbrev pub watch_of : List ℕ → Line
watch_of text = option_map_or line.Watch (wish_in text) line.Strange

-- `news` and a space, and then a number
abbrev pub news_of : List ℕ → Line
news_of text = option_map_or line.News (number_in_word 0 most_number text) line.Strange

-- what a text asks for with more than one word
unfoldable pub words_of : List ℕ → Line
words_of text =
    if bytes_eq (take 8 text) (codes "install ") then install_of (drop 8 text)
    else if bytes_eq (take 6 text) (codes "watch ") then watch_of (drop 6 text)
    else if bytes_eq (take 5 text) (codes "news ") then news_of (drop 5 text)
    else line.Strange

-- what a text asks for
unfoldable pub asked_in : List ℕ → Line
asked_in text =
    if bytes_eq text (codes "sync") then line.Sync
    else if bytes_eq text (codes "status") then line.Status
    else if bytes_eq text (codes "quit") then line.Quit
    else words_of text

-- what the bytes before a line feed ask for
unfoldable pub line_of : List ℕ → Line
line_of bytes =
    if nat_le (length bytes) MOST_BYTES then asked_in (without_return bytes) else line.Strange

abbrev pub is_feed_byte : ℕ → Bool
is_feed_byte b = b == 10

-- The lines that are whole; `begun` is what has come of the first. Bytes after the last line feed
-- are no line.
unfoldable pub lines_from : List ℕ → List ℕ → List Line
lines_from begun [] = []
lines_from begun (b ∷ bs) =
    if is_feed_byte b then line_of begun ∷ lines_from [] bs else lines_from (begun ++ b ∷ []) bs

-- the lines of a list of bytes
abbrev pub lines_of : List ℕ → List Line
lines_of bytes = lines_from [] bytes

-- a line feed is among the bytes
abbrev pub has_feed : List ℕ → Bool
has_feed bytes = list_any is_feed_byte bytes

abbrev pub is_whole_text : List ℕ → Bool
is_whole_text text = not (has_feed text)

-- a text and its end
abbrev pub ended_lines : List ℕ → List ℕ
ended_lines text = text ++ 10 ∷ []

-- the line has a text of its own, which takes memory: the path of a folder, or the beginning of
-- identifiers
abbrev pub HasWishText : Line → Type 0
HasWishText (line.Install folder) = ⊤
HasWishText (line.Watch wish) = wish.kind ≡ kind.Under
HasWishText asked = ⊥
