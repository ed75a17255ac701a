use Rattle.std.proofs.Common.{◌≡◌, ◌+◌, sym, ap, ◌∙◌, arith, rules, length, Ok}
use Rattle.std.specs.Prelude.{option_copied}
use Rattle.octets.specs.Runs.{over}
use Rattle.message.specs.Datagrams.{datagram}
use Rattle.message.specs.Pieces.{message_with}
use Rattle.message.specs.Written.{measured}
use Rattle.message.specs.declared.lists.Lists.{Lists}
use Rattle.message.proofs.Answers.{fits, over_room, refused, leaves_datagram, leaves_all}
use Rattle.message.proofs.Datagrams.{datagram_length}
use Rattle.message.proofs.datagram.write_message.Goals.{After-total-n}
use Rattle.message.proofs.datagram.write_message.Goals as goal

size : (c : After-total-n) → measured c.args.m c.args.lists.name.now (option_copied c.args.lists.list) c.args.lists.extra.now ≡ Ok c.total-n.result
size c = let m = c.args.m in
    c.in_ok-short.ensures.measured m ∙ ap Ok (sym (c.total-n.ensures.value ∙ ap (λ (lists : Lists). length (message_with m lists)) c.in_ok-short.ensures.lists))

pub returns-in_err-short : goal.returns-in_err-short
returns-in_err-short c = let a = c.args in
    let l = a.lists in
    let e = refused a.m l.name.now (option_copied l.list) l.extra.now (length a.buf.now) (c.in_err-short.ensures.measured a.m) in
    (search (rules, e), sym (leaves_all a.m l.name.now (option_copied l.list) l.extra.now a.ends a.offload a.buf.now e))

pub returns-then-buf-n : goal.returns-then-buf-n
returns-then-buf-n c = let a = c.args in
    let l = a.lists in
    let e = over_room a.m l.name.now (option_copied l.list) l.extra.now (size (goal.at.returns-then-buf-n c).After-total-n) c.if-buf-n.true in
    (sym e, sym (leaves_all a.m l.name.now (option_copied l.list) l.extra.now a.ends a.offload a.buf.now e))

pub returns : goal.returns
returns c = let a = c.args in
    let l = a.lists in
    let short = c.in_ok-short.short.lists in
    let e = fits a.m l.name.now (option_copied l.list) l.extra.now (size (goal.at.returns c).After-total-n) c.if-buf-n.false in
    let r : c.put_datagram.result ≡ 8 + c.total-n.result = omega (arith, datagram_length a.ends a.offload (message_with a.m short)) in
    let b : c.put_datagram.new.buf ≡ over (datagram a.ends a.offload (message_with a.m short)) a.buf.now = c.put_datagram.ensures.bytes in
    (ap Ok r ∙ sym e, b ∙ ap (λ (x : Lists). over (datagram a.ends a.offload (message_with a.m x)) a.buf.now) c.in_ok-short.ensures.lists ∙ sym (leaves_datagram a.m l.name.now (option_copied l.list) l.extra.now a.ends a.offload a.buf.now e))
