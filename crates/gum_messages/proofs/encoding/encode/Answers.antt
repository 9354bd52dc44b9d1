use Rattle.std.proofs.Common.{◌≡◌, ap, subst}
use Rattle.gum_messages.specs.Messages.{HasIds, IsBody}
use Rattle.gum_messages.proofs.encoding.encode.Goals as goal

pub returns-clause-limits : goal.returns-clause-limits
returns-clause-limits c =
    let same : c.message.inside.body ≡ c.args.message.now.body = ap (λ message. message.body) c.message.view_is in
    let limits : HasIds c.args.message.now.body → IsBody c.args.message.now.body = subst (λ body. HasIds body → IsBody body) same c.in_ok-put_body.ensures.limits in
    λ n. record { view = n.view; last_view = c.in_ok-put_head.ensures.view; from = n.from; to = n.to; body = limits n.ids }
