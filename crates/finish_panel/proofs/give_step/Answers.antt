-- What is no write leaves the output.
-- Assumes nothing.
use Rattle.std.proofs.Common.{refl}
use Rattle.finish_order.specs.Order.{delay, busy_high, done}
use Rattle.finish_panel.proofs.Update.{no_write}
use Rattle.finish_panel.proofs.give_step.Goals as goal

pub returns-in-Delay : goal.returns-in-Delay
returns-in-Delay c = rw c.in-Delay.is (no_write (delay c.in-Delay.ms) _ refl)

pub returns-in-BusyHigh : goal.returns-in-BusyHigh
returns-in-BusyHigh c = rw c.in-BusyHigh.is (no_write busy_high _ refl)

pub returns-in-Done : goal.returns-in-Done
returns-in-Done c = rw c.in-Done.is (no_write done _ refl)
