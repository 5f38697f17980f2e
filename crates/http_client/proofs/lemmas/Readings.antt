-- Bytes are one thing alone.
use Rattle.std.proofs.Common.{◌≡◌, ℕ, List, Result, sym, ap, ◌∙◌}
use Rattle.httparse.specs.Grammar.{ResponseHead}
use Rattle.httparse.proofs.GrammarLemmas.{response_unique}
use Rattle.http_client.specs.Replies.{IsReading, headless, headed, reply_of}
use Rattle.http_client.specs.declared.reply.BadReply.{BadReply}
use Rattle.http_client.specs.declared.reply.Reply.{Reply}

pub one_reading : (bytes : List ℕ) (r s : Result Reply BadReply) → IsReading bytes r → IsReading bytes s → r ≡ s
one_reading bytes r s (headless none p) (headless other q) = p ∙ sym q
one_reading bytes r s (headless none p) (headed h rest k q) = absurd (none h rest k)
one_reading bytes r s (headed h rest k p) (headless none q) = absurd (none h rest k)
one_reading bytes r s (headed h rest k p) (headed g tail l q) =
    let both = response_unique bytes h g rest tail k.0 l.0 in
    p ∙ ap (λ (x : ResponseHead). reply_of x rest) both.0 ∙ ap (reply_of g) both.1 ∙ sym q
