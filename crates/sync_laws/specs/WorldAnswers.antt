-- The answers of a primary, whether a mirror took them or not.
use Rattle.std.specs.Prelude.{ℕ, List, take}
use Rattle.td_base.specs.declared.report.Ask.{Ask}
use Rattle.td_base.specs.declared.upstream.Exchange.{Exchange}
use Rattle.catalogue.specs.Releases.{ReleaseData}
use Rattle.negotiate.specs.declared.choosing.Format.{Format}
use Rattle.sync_core.specs.declared.heard_type.Heard.{Heard}
use Rattle.mirror.specs.Understanding.{Means}
use Rattle.mirror.specs.declared.understood_type.Understood.TheVariants as understood
use Rattle.sync_world.specs.Primaries.{IsPlace}
use Rattle.sync_world.specs.Worlds.{Sent, SyncWorld}
use Rattle.mirror_world.specs.Answers.{IsAnswered, IsDataAnsweredOver}

-- the exchange answers what is outstanding in a world, over some of its releases
abbrev pub AnswersIn : (List ReleaseData → Ask → Exchange → Type 0) → SyncWorld → Exchange → Type 0
AnswersIn over w x = (n : ℕ) × (sent : Sent) × IsAnswered over w n sent x

-- the exchange has the answer of a primary over its first n releases
abbrev pub IsAnswerAtPlace : Format → List ReleaseData → Ask → Exchange → Type 0
IsAnswerAtPlace f H a x = (n : ℕ) × IsPlace H n × IsDataAnsweredOver f (take n H) a x

-- a mirror takes nothing of these bytes
abbrev pub IsNotTaken : Ask → List ℕ → Type 0
IsNotTaken a bytes = (h : Heard) → Means a bytes (understood.Hears h) → ⊥
