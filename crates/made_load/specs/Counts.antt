-- What is counted of a load, from its replies, and how it is told.
use Rattle.std.specs.Prelude.{◌≡◌, ℕ, ◌+◌, ◌-◌, ◌^◌, ◌==◌, min, List, ◌++◌, length, codes, decimal}
use Rattle.std.specs.Prelude.{if◌then◌else◌, Result, Ok, Err}
use Rattle.http_client.specs.Replies.{IsReading}
use Rattle.http_client.specs.declared.reply.Reply.{Reply}
use Rattle.json_forms.specs.ListReading.{list_read}
use Rattle.json_forms.specs.declared.list_fault.BadList.{BadList}
use Rattle.json_forms.specs.declared.zone_list.ListDoc.{ListDoc}
use Rattle.made_load.specs.declared.counts.LoadCounts.{LoadCounts}

abbrev pub no_counts : LoadCounts
no_counts = record { releases = 0; requests = 0; fine = 0; unchanged = 0; entries = 0 }

-- so many more, up to the last value of 32 bits
abbrev pub raised_count : ℕ → ℕ → ℕ
raised_count count more = min (count + more) (2 ^ 32 - 1)

-- one more where a reply has a status
abbrev pub raised_if : ℕ → ℕ → ℕ → ℕ
raised_if wanted status count = if status == wanted then raised_count count 1 else count

-- how many entries a list has; what is no list has none
abbrev pub counted_entries : Result ListDoc BadList → ℕ
counted_entries (Ok list) = length list.zones
counted_entries (Err fault) = 0

-- with one more reply, of a status and a list of so many entries
abbrev pub with_entries : LoadCounts → ℕ → ℕ → LoadCounts
with_entries c status entries = record {
  releases = c.releases;
  requests = raised_count c.requests 1;
  fine = raised_if 200 status c.fine;
  unchanged = raised_if 304 status c.unchanged;
  entries = raised_count c.entries entries;
}

-- with one more reply: its status, and the entries of the list that its body is
abbrev pub with_reply : LoadCounts → Reply → LoadCounts
with_reply c reply = with_entries c reply.status (counted_entries (list_read reply.body))

-- with one more release
abbrev pub with_release : LoadCounts → LoadCounts
with_release c = record c { releases = raised_count c.releases 1 }

-- bytes that are a reply were counted
pub record CountsReply (bytes : List ℕ) (old new : LoadCounts) : Type 0 where
  pub reply : Reply
  pub reads : IsReading bytes (Ok reply)
  pub counted : new ≡ with_reply old reply

-- ---- the line that tells them

unfoldable pub summary_text : LoadCounts → List ℕ
summary_text c =
    codes "load " ++ (decimal c.releases ++ (codes ": " ++ (decimal c.releases
    ++ (codes " releases, " ++ (decimal c.requests
    ++ (codes " requests, " ++ (decimal c.fine
    ++ (codes " ok, " ++ (decimal c.unchanged
    ++ (codes " unchanged, " ++ (decimal c.entries ++ codes " entries\n")))))))))))
