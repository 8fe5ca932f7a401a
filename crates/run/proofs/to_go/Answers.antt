-- `to_go` meets its contract, place by place. Assumes nothing.
use Rattle.std.proofs.Common.{◌-◌, sym, ap, ◌∙◌}
use Rattle.run.proofs.Due.{due_here, ready_here}
use Rattle.run.proofs.to_go.Goals as goal

pub start_to_go-requires : goal.start_to_go-requires
start_to_go-requires c = ready_here _ c.args.run c.in-Start.is c.requires

pub line_to_go-requires : goal.line_to_go-requires
line_to_go-requires c = ready_here _ c.args.run c.in-Line.is c.requires

pub stop_to_go-requires : goal.stop_to_go-requires
stop_to_go-requires c = ready_here _ c.args.run c.in-Stop.is c.requires

pub returns-in-Start : goal.returns-in-Start
returns-in-Start c =
    let a = c.args in
    c.start_to_go.ensures ∙ ap (λ t. t - a.moment.0) (sym (due_here _ a.run c.in-Start.is))

pub returns-in-Line : goal.returns-in-Line
returns-in-Line c =
    let a = c.args in
    c.line_to_go.ensures ∙ ap (λ t. t - a.moment.0) (sym (due_here _ a.run c.in-Line.is))

pub returns-in-Stop : goal.returns-in-Stop
returns-in-Stop c =
    let a = c.args in
    c.stop_to_go.ensures ∙ ap (λ t. t - a.moment.0) (sym (due_here _ a.run c.in-Stop.is))
