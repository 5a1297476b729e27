use Rattle.std.proofs.Common.{◌≡◌, ◌∷◌, true, map, Some, codes, ap, sym, ◌∙◌, rules, tests}
use Rattle.std.proofs.lemmas.List.{map-append}
use Rattle.std.specs.Str.{bytes_eq}
use Rattle.server_events.specs.Shown.{config_value}
use Rattle.script.specs.Parts.{words_of}
use Rattle.script.specs.ReplayHead.{ReplayHeadValue}
use Rattle.script.specs.ReplayShown.{head_value}
use Rattle.script.proofs.HeadLemmas.{configures_line}
use Rattle.script.proofs.replay.parser.add_line.Goals as goal

pub returns-in_ok-push-clause-read : goal.returns-in_ok-push-clause-read
returns-in_ok-push-clause-read c =
    let head : ReplayHeadValue = head_value c.args.head.now in
    let steps : words_of c.args.line.now ≡ c.in_ok-kind.kind.now ∷ c.next.new.self = search rules in
    let kind : bytes_eq c.in_ok-kind.kind.now (codes "instance") ≡ true = search (rules, tests) in
    configures_line head c.args.line.now c.in_ok-kind.kind.now c.next.new.self
    (config_value c.in_ok-config.config) steps kind c.if-head.false c.in_ok-config.ensures.read
    ∙ ap (λ configs. Some (record head { configs = configs }))
    (sym (ap (map config_value) c.in_ok-push.ensures.items ∙ map-append config_value _ _))
