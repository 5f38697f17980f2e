-- The head of a request has one Host field.
use Rattle.std.proofs.Common.{◌≡◌, ℕ, List, [], ◌∷◌, codes, ap, ◌∙◌, filter}
use Rattle.std.specs.Str.{str_eq_ignore_ascii_case}
use Rattle.httparse.specs.Grammar.{ReadsRequest, RequestHead}
use Rattle.httparse.proofs.GrammarLemmas.{request_unique}
use Rattle.td_base.specs.declared.report.Ask.{Ask}
use Rattle.http_client.specs.SentHeads.{IsSentHeadOf}
use Rattle.sync_laws.specs.Fields.{fields_named}

pub one_host : (text media host : List ℕ) (a : Ask) (g h : RequestHead) → IsSentHeadOf text media host a g → ReadsRequest text h []
    → fields_named (codes "host") h.fields ≡ (codes "Host", host) ∷ []
one_host text media host a g h sent reads =
    let same = request_unique text h g [] [] reads sent.reads in
    ap (λ (x : RequestHead). fields_named (codes "host") x.fields) same.0
    ∙ ap (λ (fs : List (List ℕ × List ℕ)). filter (λ f. str_eq_ignore_ascii_case f.0 (codes "host")) fs) sent.fields
