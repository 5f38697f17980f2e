use Rattle.std.proofs.Common.{[], append_assoc}
use Rattle.made_load.specs.Requests.{head_text, list_requests, made_list_target, since_target}
use Rattle.made_load.proofs.asking.put_list_requests.Goals as goal

pub returns : goal.returns
unfolding list_requests
returns c =
    rw (c.in_ok-put_head-2.ensures, c.in_ok-put_head.ensures, c.as_slice-2.ensures, c.in_ok-since.ensures, c.as_slice.ensures.value)
    (append_assoc c.args.out.now (head_text made_list_target []) (head_text (since_target c.args.token.now) []))
