use Rattle.std.proofs.Common.{◌==◌, ◌≡◌, option_map, option_copied, ap, ◌∙◌, rules, tests}
use Rattle.std.proofs.lemmas.Iterator.Search.{find_from_yields_List}
use Rattle.std.proofs.lemmas.Iterator.Consumers.{YieldsList-from_first}
use Rattle.wire.specs.Options.{options_left, option_of}
use Rattle.wire.proofs.Walks.{first_found}
use Rattle.wire.proofs.options.find.Goals as goal

pub returns : goal.returns
returns c =
    let o = find_from_yields_List (λ o. o.code == c.args.code) c.find.new.self _ c.find.result c.find.ensures.ran (YieldsList-from_first option_of options_left _ c.of.ensures) (λ x b q k. search (rules, tests)) in
    let m : option_copied c.map.result ≡ option_map (λ o. o.body) (option_map option_of c.find.result) = search rules in
    m ∙ ap (option_map (λ o. o.body)) o ∙ first_found _ _
