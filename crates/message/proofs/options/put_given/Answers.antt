use Rattle.std.proofs.Common.{◌≡◌, ap, arith, length, rules}
use Rattle.octets.specs.Codes.{requested_code, identifier_code, message_size_code}
use Rattle.message.specs.Messages.{option_if, address_option, size_option}
use Rattle.message.proofs.Messages.{address_if, size_if}
use Rattle.message.proofs.Writers.{row}
use Rattle.message.proofs.options.put_given.Goals.{After-map, After-map-2, After-map-3}
use Rattle.message.proofs.options.put_given.Goals as goal

requested : (c : After-map) → option_if requested_code c.map.result ≡ address_option requested_code c.args.m.requested
requested c = address_if requested_code c.args.m.requested (search rules)

server : (c : After-map-2) → option_if identifier_code c.map-2.result ≡ address_option identifier_code c.args.m.server
server c = address_if identifier_code c.args.m.server (search rules)

size : (c : After-map-3) → option_if message_size_code c.map-3.result ≡ size_option message_size_code c.args.m.size
size c = size_if message_size_code c.args.m.size (search rules)

pub returns-clause-wrote : goal.returns-clause-wrote
returns-clause-wrote c =
    let at = goal.at.returns-clause-wrote c in
    row (rw (requested at.After-map) at c.put_field-n1.ensures) (row (rw (server at.After-map-2) at c.put_field-n2.ensures) (rw (size at.After-map-3) at c.put_field.ensures))

pub returns-clause-value : goal.returns-clause-value
returns-clause-value c =
    let at = goal.at.returns-clause-value c in
    let e = ap length (requested at.After-map) in
    let f = ap length (server at.After-map-2) in
    let g = ap length (size at.After-map-3) in
    omega arith
