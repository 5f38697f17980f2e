-- The JSON value that bytes are (RFC 8259), which have to be UTF-8.
use Rattle.std.specs.Prelude.{ℕ, List, if◌then◌else◌, Option, None}
use Rattle.std.specs.Str.{is_utf8}
use Rattle.serde_json.specs.Data.{Data}
use Rattle.serde_json.specs.Read.{read}

unfoldable pub json_in : List ℕ → Option Data
json_in text = if is_utf8 text then read text else None
