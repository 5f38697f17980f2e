-- What is written in reply to a line.
use Rattle.std.specs.Prelude.{◌≡◌, ◌≢◌, ℕ, List, ◌⊎◌}
use Rattle.console.specs.Replies.{reply_text}
use Rattle.console.specs.declared.said.Said.TheVariants as said
use Rattle.installer.specs.FaultText.{fault_text}
use Rattle.installer.specs.declared.install_fault.InstallFault.{InstallFault}
use Rattle.installer.specs.declared.install_fault.InstallFault.TheVariants as install
use Rattle.mirror.specs.FaultText.{fault_text as sync_text}
use Rattle.mirror.specs.declared.sync_fault.SyncFault.{SyncFault}
use Rattle.mirror.specs.declared.sync_fault.SyncFault.TheVariants as sync
use Rattle.td_top.specs.declared.replies.ConsoleReply.{ConsoleReply}
use Rattle.td_top.specs.declared.replies.ConsoleReply.TheVariants as reply

-- a reply as it is written
abbrev pub reply_bytes : ConsoleReply → List ℕ
reply_bytes (reply.Short text) = text
reply_bytes (reply.Long text) = text

-- what is said of something that was refused: why, or, where there is no memory for that, this
abbrev pub SaysWhy : List ℕ → List ℕ → Type 0
SaysWhy why text =
    (text ≡ reply_text said.NoMemory) ⊎ (text ≡ reply_text (said.Refused why))

-- what is said of a folder that was not installed: why, or, where there is no memory for that, this
abbrev pub SaysRefused : InstallFault → List ℕ → Type 0
SaysRefused e text =
    (text ≡ reply_text said.NoMemory)
    ⊎ ((e ≢ install.NoMemory) × (text ≡ reply_text (said.Refused (fault_text e))))

-- what is said of a sync that ended by a fault: why, or, where there is no memory for that, this
abbrev pub SaysFaulted : SyncFault → List ℕ → Type 0
SaysFaulted e text =
    (text ≡ reply_text said.NoMemory)
    ⊎ ((e ≢ sync.NoMemory) × (text ≡ reply_text (said.Refused (sync_text e))))
