-- How many bytes at the beginning of a list are ready to be answered: those of its first head, or
-- all where no head can come of them any more. Where there are none, a server could only wait.
use Rattle.std.specs.Prelude.{ℕ, ◌<◌, ◌≤◌, ◌≡◌, List, length, if◌then◌else◌, Option, Some, None}
use Rattle.http_request.specs.Ends.{is_full, window}
use Rattle.http_request.specs.Scans.{IsScanned}
use Rattle.stretches.specs.declared.looking.Look.{Look}
use Rattle.stretches.specs.declared.looking.Look.TheVariants as look

-- by the length of the first head that is whole and within the limits, if there is one
abbrev pub front_by : List ℕ → Option ℕ → ℕ
front_by bytes (Some n) = n
front_by bytes None = if is_full bytes then length bytes else 0

abbrev pub front_length : List ℕ → ℕ
front_length bytes = front_by bytes (window bytes)

-- what a look at the bytes finds
abbrev pub LooksAt : List ℕ → Look → Type 0
LooksAt bytes (look.Ready n) = (front_length bytes ≡ n) × (0 < n) × (n ≤ length bytes)
LooksAt bytes (look.Waiting scan) = (front_length bytes ≡ 0) × IsScanned bytes scan
