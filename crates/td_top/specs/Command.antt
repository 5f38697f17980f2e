-- The words of the command line, what they ask for, and the commands that the code makes of them.
use Rattle.std.specs.Prelude.{ℕ, ◌<◌, ◌≤◌, List, [], ◌∷◌, length, codes, ⊤, Bool, ℤ, pos}
use Rattle.std.specs.Prelude.{true, false, not, ◌&&◌, ◌||◌, ◌==◌, nat_le, if◌then◌else◌}
use Rattle.std.specs.Prelude.{int_le, int_lt}
use Rattle.std.specs.Prelude.{Option, None, Some, option_and_then}
use Rattle.std.specs.Option.{option_map}
use Rattle.std.specs.List.{list_all, list_any}
use Rattle.std.specs.Str.{bytes_eq}
use Rattle.admission.specs.declared.rules.Chosen.{Chosen}
use Rattle.admission.specs.declared.rules.RuleKind.{RuleKind}
use Rattle.admission.specs.declared.rules.RuleKind.TheVariants as kind
use Rattle.td_base.specs.Names.{IsPlain, is_path_word}
use Rattle.console.specs.Words.{meant_moment, number_in_word}
use Rattle.td_civil.specs.Bounds.{HasMeaning}
use Rattle.td_civil.specs.Reading.{moment_in}
use Rattle.td_civil.specs.declared.moment_type.TheConstants.{HI}
use Rattle.run_ends.specs.Commands.{IsRangeAsked, PlainCommand, answer, at, calmirror, check, load}
use Rattle.run_ends.specs.Commands.{mirror, serve}
use Rattle.td_top.specs.declared.command.Command.{Command}
use Rattle.td_top.specs.declared.command.Command.TheVariants as command
use Rattle.td_top.specs.declared.command.TheConstants.{ADDRESS_LIMIT, MOST_FOLDERS}
use Rattle.td_top.specs.declared.command.TheConstants.{MOST_RELEASES, MOST_WORKERS}
use Rattle.td_top.specs.declared.command.rules.TheConstants.{MOST_CHANGED}

-- at least one word and no more than there may be folders, each of which may name one
unfoldable pub are_folders : List (List ℕ) → Bool
are_folders words =
    nat_le 1 (length words) && nat_le (length words) MOST_FOLDERS && list_all is_path_word words

-- the command over folders, where the words name some
abbrev pub over_folders : (List (List ℕ) → PlainCommand) → List (List ℕ) → Option PlainCommand
over_folders asking words = if are_folders words then Some (asking words) else None

-- `at FILE MOMENT`
abbrev pub at_of : List (List ℕ) → Option PlainCommand
at_of (file ∷ moment ∷ []) =
    if is_path_word file then option_map (λ m. at file m) (meant_moment moment) else None
at_of _ = None

-- a byte of a network address: a letter, a digit, or one of `.`, `:`, `-`, `[` and `]`
abbrev pub is_address_byte : ℕ → Bool
is_address_byte b =
    (nat_le 65 b && nat_le b 90) || (nat_le 97 b && nat_le b 122) || (nat_le 48 b && nat_le b 57)
    || (b == 46) || (b == 58) || (b == 45) || (b == 91) || (b == 93)

-- at least one such byte, as many as an address may have at most, and no dash at the front
abbrev pub is_address : List ℕ → Bool
is_address [] = false
is_address (b ∷ bs) =
    not (b == 45) && nat_le (length (b ∷ bs)) ADDRESS_LIMIT && list_all is_address_byte (b ∷ bs)

-- ---- the rules for releases

-- at most so many zones may change
abbrev pub max_changed : ℕ → Chosen
max_changed n = record { kind = kind.MaxChanged; number = pos n }

-- nothing before the moment may change
abbrev pub no_past_change : ℤ → Chosen
no_past_change m = record { kind = kind.NoPastChange; number = m }

-- `--max-changed N` or `--no-past-change MOMENT`
abbrev pub rule_of_words : List ℕ → List ℕ → Option Chosen
rule_of_words name value =
    if bytes_eq name (codes "--max-changed")
    then option_map max_changed (number_in_word 0 MOST_CHANGED value)
    else if bytes_eq name (codes "--no-past-change")
    then option_map no_past_change (meant_moment value) else None

-- the rule with which words begin, if they begin with one, and the words after it
abbrev pub next_rule : List (List ℕ) → Option (Chosen × List (List ℕ))
next_rule (name ∷ value ∷ words) = option_map (λ rule. (rule, words)) (rule_of_words name value)
next_rule words = None

-- a rule in front of those with which words begin, where there is one; else these words begin with
-- none
abbrev pub with_rule_if_any : List (List ℕ) → Option Chosen → List Chosen × List (List ℕ)
    → List Chosen × List (List ℕ)
with_rule_if_any words None found = ([], words)
with_rule_if_any words (Some rule) found = (rule ∷ found.0, found.1)

-- the rules with which words begin, in their order, and the words after them
unfoldable pub rules_then : List (List ℕ) → List Chosen × List (List ℕ)
rules_then (name ∷ value ∷ words) =
    with_rule_if_any (name ∷ value ∷ words) (rule_of_words name value) (rules_then words)
rules_then words = ([], words)

abbrev pub is_same_kind : RuleKind → RuleKind → Bool
is_same_kind kind.MaxChanged kind.MaxChanged = true
is_same_kind kind.NoPastChange kind.NoPastChange = true
is_same_kind a b = false

-- one of the rules is of a kind
abbrev pub has_kind : RuleKind → List Chosen → Bool
has_kind wanted rules = list_any (λ rule. is_same_kind rule.kind wanted) rules

-- no kind of rule comes twice
unfoldable pub are_once : List Chosen → Bool
are_once [] = true
are_once (rule ∷ rules) = not (has_kind rule.kind rules) && are_once rules

abbrev pub if_once : List Chosen × List (List ℕ) → Option (List Chosen × List (List ℕ))
if_once found = if are_once found.0 then Some found else None

-- the command under rules over folders, where the words after these name some
abbrev pub over_ruled : (List Chosen → List (List ℕ) → PlainCommand) → List Chosen × List (List ℕ)
    → Option PlainCommand
over_ruled asking found = over_folders (asking found.0) found.1

-- `serve ADDRESS WORKERS RULES DIR..`
abbrev pub serve_of : List (List ℕ) → Option PlainCommand
serve_of (address ∷ workers ∷ words) =
    if is_address address
    then option_and_then
    (λ n. option_and_then (over_ruled (serve address n)) (if_once (rules_then words)))
    (number_in_word 1 MOST_WORKERS workers)
    else None
serve_of _ = None

-- `mirror ADDRESS WORKERS UPSTREAM`
abbrev pub mirror_of : List (List ℕ) → Option PlainCommand
mirror_of (address ∷ workers ∷ upstream ∷ []) =
    if is_address address && is_address upstream
    then option_map (λ n. mirror address n upstream) (number_in_word 1 MOST_WORKERS workers)
    else None
mirror_of _ = None

-- `load NUMBER`
abbrev pub load_of : List (List ℕ) → Option PlainCommand
load_of (number ∷ []) = option_map load (number_in_word 1 MOST_RELEASES number)
load_of _ = None

-- a moment, if it comes after another, and not after the last one that has a text here
abbrev pub if_after : ℤ → ℤ → Option ℤ
if_after start m = if int_lt start m && int_le m HI then Some m else None

-- the moment that a word spells, if it comes after another; it may be 9999-01-01T00:00:00Z itself
abbrev pub end_after : ℤ → List ℕ → Option ℤ
end_after start word = option_and_then (if_after start) (moment_in word)

-- the range that two words spell
abbrev pub over_range : List ℕ → List ℕ → ℤ → Option PlainCommand
over_range upstream end start = option_map (calmirror upstream start) (end_after start end)

-- `calmirror UPSTREAM START END`
abbrev pub calmirror_of : List (List ℕ) → Option PlainCommand
calmirror_of (upstream ∷ start ∷ end ∷ []) =
    if is_address upstream
    then option_and_then (over_range upstream end) (meant_moment start) else None
calmirror_of _ = None

-- the command that the words spell: its name first, and then what stands after it
abbrev pub command_of : List (List ℕ) → Option PlainCommand
command_of [] = None
command_of (name ∷ words) =
    if bytes_eq name (codes "answer") then over_folders answer words
    else if bytes_eq name (codes "check") then over_folders check words
    else if bytes_eq name (codes "at") then at_of words
    else if bytes_eq name (codes "serve") then serve_of words
    else if bytes_eq name (codes "mirror") then mirror_of words
    else if bytes_eq name (codes "load") then load_of words
    else if bytes_eq name (codes "calmirror") then calmirror_of words else None

-- ---- the code's commands

-- a command without where its words lie in memory
abbrev pub plain_command : Command → PlainCommand
plain_command (command.Answer folders) = answer folders.now
plain_command (command.Check folders) = check folders.now
plain_command (command.At file moment) = at file.now moment.seconds
plain_command (command.Serve w) = serve w.address.now w.workers w.rules w.folders.now
plain_command (command.Mirror w) = mirror w.address.now w.workers w.upstream.now
plain_command (command.Load number) = load number
plain_command (command.MirrorCalendars plan) =
    calmirror plan.upstream.now plan.start.seconds plan.end.seconds

-- a command names a folder to serve, its moment and its range have a meaning, its workers are few,
-- the server that it follows has a plain address, and a load has some releases and not too many
abbrev pub IsMeantCommand : Command → Type 0
IsMeantCommand (command.Answer folders) = 0 < length folders.now
IsMeantCommand (command.Check folders) = ⊤
IsMeantCommand (command.At file moment) = HasMeaning moment.seconds
IsMeantCommand (command.Serve w) = (w.workers ≤ MOST_WORKERS) × (0 < length w.folders.now)
IsMeantCommand (command.Mirror w) = (w.workers ≤ MOST_WORKERS) × IsPlain w.upstream.now
IsMeantCommand (command.Load number) = (1 ≤ number) × (number ≤ MOST_RELEASES)
IsMeantCommand (command.MirrorCalendars plan) = IsRangeAsked plan.start.seconds plan.end.seconds
