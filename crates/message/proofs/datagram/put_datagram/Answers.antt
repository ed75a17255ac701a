use native.Mathlib.Omega.{arith}
use Rattle.message.specs.Pieces.{message_with}
use Rattle.message.proofs.Datagrams.{headed, finish}
use Rattle.message.proofs.datagram.put_datagram.Goals as goal

pub returns : goal.returns
returns c = let a = c.args in
    let body = message_with a.m a.short.lists in
    finish a.ends body (headed _ body (omega arith) c.put_udp-n1.ensures c.put_message-n2.ensures) a.offload c.put_checksum.ensures
