-- `next_write_from`: what is left after k steps are the steps from the k-th on. Assumes nothing.
use Rattle.panel.specs.Names.{panel_code}
use Rattle.settings.proofs.Waits.{found_from}
use Rattle.settings.proofs.file.AcceptedFile.next_write_from.Goals as goal

pub returns : goal.returns
returns c =
    let a = c.args in
    found_from (panel_code a.self.plan.panel) a.self.file.now a.section.at a.section.count a.k c.steps_end-at.result c.next_write.result c.requires.2
    c.steps_end-at.ensures.rest c.next_write.ensures
