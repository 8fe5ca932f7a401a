-- A refusal of the store, 9 where no run is under way, or a poll of the run. Assumes nothing.
use mathlib.Core.Path.{◌≡◌, refl, ap, ◌∙◌}
use Prim.Native.Nat.{◌≤◌}
use native.Mathlib.Omega.{arith}
use borrow.Author.Rules.{rules}
use lib.ListN.{length}
use Rattle.run.proofs.Valid.{valid_ready}
use Rattle.run.specs.declared.Phase.TheVariants.{Idle, Abandoned, Running}
use Rattle.store.proofs.Conditions.{run_of, valid-state}
use Rattle.board.specs.State.{file_of}
use Rattle.board.specs.Calls.{in_state}
use Rattle.board.specs.Facts.{state_of}
use Rattle.board.proofs.Tests.{store_tested, room}
use Rattle.board.proofs.Replies.{some_refused, poll-refused, poll_in, poll_left}
use Rattle.board.proofs.runs.poll_store.Goals as goal

pub returns-in-Err : goal.returns-in-Err
returns-in-Err c =
    let a = c.args in
    let s = state_of a.settings.now a.store in
    let is = c.refused.ensures in
    rw (is.0, is.1) (poll-refused s a.tick a.memory.now a.out.now c.in-Err.ensures.number_is (some_refused c.in-Err.refusal))

pub shared_ref_as_front-accepted : goal.shared_ref_as_front-accepted
shared_ref_as_front-accepted c =
    let a = c.args in
    let s = state_of a.settings.now a.store in
    let within : a.settings.now.len ≤ length a.settings.now.file = (valid-state (store_tested s _ c.in-Ok.plan c.in-Ok.ensures).valid).within in
    let is : length a.settings.now.file ≡ 637 = search rules in
    omega (arith, within, is)

pub poll_run-handed-requires : goal.poll_run-handed-requires
poll_run-handed-requires c =
    let a = c.args in
    let s = state_of a.settings.now a.store in
    let t = store_tested s _ c.in-Ok.plan c.in-Ok.ensures in
    let run = c.in-Running.run' in
    let valid = run_of (valid-state t.valid) c.in-Running.is in (
      valid_ready (file_of s) a.store.slots run valid run.passed (omega arith),
      room s run a.memory.now valid t,
    )

pub leave-requires : goal.leave-requires
leave-requires c =
    let a = c.args in
    let s = state_of a.settings.now a.store in
    let t = store_tested s _ c.in-Ok.plan c.in-Ok.ensures in
    let run = c.in-Running.run' in
    (room s run a.memory.now (run_of (valid-state t.valid) c.in-Running.is) t).slot_in.few

pub returns-in-Idle : goal.returns-in-Idle
returns-in-Idle c =
    let a = c.args in
    let s = state_of a.settings.now a.store in
    let is = c.refused-in-Idle.ensures in
    rw (is.0, is.1) (poll_in s a.tick a.memory.now a.out.now c.in-Ok.ensures.number_is refl Idle c.in-Idle.is)

pub returns-in-Abandoned : goal.returns-in-Abandoned
returns-in-Abandoned c =
    let a = c.args in
    let s = state_of a.settings.now a.store in
    let is = c.refused-in-Abandoned.ensures in
    rw (is.0, is.1) (poll_in s a.tick a.memory.now a.out.now c.in-Ok.ensures.number_is refl Abandoned c.in-Abandoned.is)

pub returns-in-Running : goal.returns-in-Running
returns-in-Running c =
    let a = c.args in
    let s = state_of a.settings.now a.store in
    let run = c.in-Running.run' in
    poll_left s run.slot _ c.leave.ensures
    ∙ ap (in_state s run.slot) c.poll_run-handed.ensures
    ∙ poll_in s a.tick a.memory.now a.out.now c.in-Ok.ensures.number_is refl (Running run) c.in-Running.is
