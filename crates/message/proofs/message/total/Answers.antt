use Rattle.std.proofs.Common.{◌≡◌, rules, arith, length, ap, sym, ◌∙◌, ◌≢◌}
use Rattle.std.specs.Prelude.{option_copied}
use Rattle.octets.specs.Codes.{requested_code, identifier_code, request_list_code, message_size_code}
use Rattle.message.specs.Messages.{option_if, address_option, size_option, name_option}
use Rattle.message.proofs.Messages.{message_length_lem, name_some, name_none, if_length, address_length, size_length}
use Rattle.message.proofs.message.total.Goals.{then-is_empty, else-is_empty}
use Rattle.message.proofs.message.total.Goals as goal

pub returns-clause-value : goal.returns-clause-value
returns-clause-value c =
    let m = c.args.m in
    let lists = c.args.short.lists in
    let size : length m.hardware ≡ 6 = search rules in
    let e : c.map_or-requested.result ≡ length (address_option requested_code m.requested) = search (rules, address_length) in
    let f : c.map_or-server.result ≡ length (address_option identifier_code m.server) = search (rules, address_length) in
    let g : c.map_or-size.result ≡ length (size_option message_size_code m.size) = search (rules, size_length) in
    let h : c.map_or-listed.result ≡ length (option_if request_list_code (option_copied lists.list)) = search (rules, if_length) in
    let n : c.if-is_empty.named ≡ length (name_option lists.name.now) =
    elim c.if-is_empty.branch [
      | then-is_empty w ↦ let z : length lists.name.now ≡ 0 = search rules in w.named-is ∙ sym (ap length (name_none lists.name.now z))
      | else-is_empty w ↦ let z : length lists.name.now ≢ 0 = search rules in let o = ap length (name_some lists.name.now z) in omega arith
    ] in
    omega (arith, message_length_lem m lists.name.now (option_copied lists.list) lists.extra.now size)
