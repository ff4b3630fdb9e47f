-- `terminal::bytes::run_beside` meets its contract. The loop: what the send and the bytes taken gave, and the repeated step on the rest, are the
-- whole run; and a row list beside the page is the page's.
use Rattle.std.specs.Prelude.{◌≡◌, ℕ, ◌+◌, ◌<◌, ◌≤◌, true, eqb, List, length}
use mathlib.Core.Path.{refl, sym, ap, ◌∙◌}
use mathlib.Core.Bool.{false≢true}
use borrow.Author.Tests.{eqb-false}
use native.Mathlib.Omega.{arith}
use Rattle.rules.specs.State.{number, width_of, sends}
use Rattle.rules.specs.Cell.{both}
use Rattle.rules.specs.Next.{is_event}
use Rattle.rules.specs.declared.RunResult.{RunResult}
use Rattle.rules.proofs.Tests.{either_first, either_second}
use Rattle.rules.proofs.Sends.{not_sending}
use Rattle.rules.specs.Search.{guarded_at}
use Rattle.rules.specs.RowList.{Beside}
use Rattle.terminal.specs.Promise.{RunDone}
use Rattle.terminal.specs.Loop.{call_to}
use Rattle.terminal.proofs.Calls.{run_none, run_sent, run_on_lem, went_fits, went_long, send_ready, good_quiet}
use Rattle.terminal.proofs.Loop.{run_behind, ran_is, begin, stops, go, halt, finish, ready}
use Rattle.terminal.proofs.Loop.{more_refused, nothing_made, event_ends, event_answer, no_event, stop_beside, go_beside, ended_beside}
use Rattle.terminal.proofs.FastPaths.{Resumed, resumed, path_fits}
use Rattle.terminal.proofs.FastRows.{path_behind, moved_behind}
use Rattle.terminal.proofs.Sequences.{passed, passed_beside, passed_reads}
use Rattle.terminal.proofs.bytes.run_beside.Goals.{else-under-via-then-under+else-is_empty, else-under-via-else-under, then-stop, else-stop}
use Rattle.terminal.proofs.bytes.run_beside.Goals.{then-is_sending-via-then-is_sending, then-is_sending-via-else-is_sending+then-ends}
use Rattle.terminal.proofs.bytes.run_beside.Goals.{then-stop-2, else-stop-2, then-event-2-via-then-event-2}
use Rattle.terminal.proofs.bytes.run_beside.Goals.{then-event-2-via-else-event-2+then-is_sending-2}
use Rattle.terminal.proofs.bytes.run_beside.Goals as goal

pub returns-then-is_empty : goal.returns-then-is_empty
returns-then-is_empty c = (
  ran_is c.finished.ensures
      (run_none c.args.page.now c.args.state c.requires.0 (sym c.is_sending-under.ensures ∙ c.if-under.true) c.args.stop _ _ _
      (sym c.is_empty.ensures ∙ c.if-is_empty.true) c.no_room.ensures),
  ended_beside c.finished.result c.args.page.now (ap (λ (z : RunResult). z.state.core) c.finished.ensures) c.requires.1,
)

pub resume-sent-requires : goal.resume-sent-requires
resume-sent-requires c u =
    let heard : let x = c.args in sends x.state.sending ≡ true → 0 < length x.reply.now =
    λ u. (elim c.else-under.branch [
      | else-under-via-then-under+else-is_empty w ↦ omega (arith, eqb-false _ _ (sym w.is_empty.ensures ∙ w.if-is_empty.false))
      | else-under-via-else-under w ↦ absurd (false≢true (sym w.if-under.false ∙ (c.is_sending-under.ensures ∙ u)))
    ]) in
    send_ready c.args.page.now c.args.state c.requires.0 c.args.reply.now (heard u)

pub returns-then-is_sending : goal.returns-then-is_sending
returns-then-is_sending c =
    let heard : let x = c.args in sends x.state.sending ≡ true → 0 < length x.reply.now =
    λ u. (elim c.else-under.branch [
      | else-under-via-then-under+else-is_empty w ↦ omega (arith, eqb-false _ _ (sym w.is_empty.ensures ∙ w.if-is_empty.false))
      | else-under-via-else-under w ↦ absurd (false≢true (sym w.if-under.false ∙ (c.is_sending-under.ensures ∙ u)))
    ]) in
    let ends : c.if-stop.ends ≡ both c.args.stop (sends c.args.state.sending) =
    elim c.if-stop.branch [
      | then-stop w ↦ rw w.if-stop.true (w.ends-is ∙ c.is_sending-under.ensures)
      | else-stop w ↦ rw w.if-stop.false (w.ends-is ∙ w.if-stop.false)
    ] in (
      ran_is c.finished-then-is_sending.ensures
          (run_sent c.args.page.now c.args.state c.requires.0 c.resume-sent.ensures (heard) c.args.stop _
          (elim c.then-is_sending.branch [
            | then-is_sending-via-then-is_sending w ↦ either_first _ (sym c.is_sending.ensures ∙ w.if-is_sending.true)
            | then-is_sending-via-else-is_sending+then-ends w ↦ either_second _ (sym (ends) ∙ w.if-ends.true)
          ])),
      ended_beside c.finished-then-is_sending.result c.args.page.now (ap (λ (z : RunResult). z.state.core) c.finished-then-is_sending.ensures) c.requires.1,
    )

pub loop-taken-init : goal.loop-taken-init
loop-taken-init c =
    let heard : let x = c.args in sends x.state.sending ≡ true → 0 < length x.reply.now =
    λ u. (elim c.else-under.branch [
      | else-under-via-then-under+else-is_empty w ↦ omega (arith, eqb-false _ _ (sym w.is_empty.ensures ∙ w.if-is_empty.false))
      | else-under-via-else-under w ↦ absurd (false≢true (sym w.if-under.false ∙ (c.is_sending-under.ensures ∙ u)))
    ]) in
    let room = c.resume-sent.new.reply in
    let resized : length (room) ≡ length c.args.reply.now =
    went_long c.args.page.now c.args.state c.requires.0 c.resume-sent.ensures (heard) in
    let fitting : c.resume-sent.result.replied ≤ length (room) =
    omega (arith, went_fits c.args.page.now c.args.state c.requires.0 c.resume-sent.ensures (heard), resized) in
    (begin _ _ _ _ _ _ _ _ (good_quiet c.args.page.now c.args.state c.requires.0) (fitting), (c.requires.1, refl))

pub fast_path-fast-requires : goal.fast_path-fast-requires
fast_path-fast-requires c = let g = ready c.loop-taken.invariant.0 in (g.0, (g.1.0, (c.loop-taken-test.true, g.1.1.1)))

pub moved-moved_core-requires : goal.moved-moved_core-requires
moved-moved_core-requires c = path_fits c.loop-taken.invariant.0 (omega (arith, c.loop-taken-test.true)) c.fast_path-fast.ensures.0

pub overflow_add-refused : goal.overflow_add-refused
overflow_add-refused c =
    let room = c.resume-sent.new.reply in
    let whole = let x = c.args in
    run_behind x.stop x.page.now x.state.core x.state.gathered x.state.setup x.input.now (room) c.resume-sent.result.replied in
    let run : let x = c.args in let l = c.loop-taken in let r = c.fast_path-fast in
    Resumed x.stop x.page.now (whole) x.input.now (room) r.new.page l.reply c.moved-moved_core.result
    l.g l.u r.result.taken l.replied (l.refused + r.result.refused) l.taken =
    let t = c.fast_path-fast.ensures in
    resumed c.loop-taken.invariant.0 (omega (arith, c.loop-taken-test.true)) t.0 t.1 c.moved-moved_core.ensures in
    let r = run in omega (arith, r.running.few, r.left, c.well_formed)

pub follow_path-requires : goal.follow_path-requires
follow_path-requires c =
    let room = c.resume-sent.new.reply in
    let whole = let x = c.args in
    run_behind x.stop x.page.now x.state.core x.state.gathered x.state.setup x.input.now (room) c.resume-sent.result.replied in
    let run : let x = c.args in let l = c.loop-taken in let r = c.fast_path-fast in
    Resumed x.stop x.page.now (whole) x.input.now (room) r.new.page l.reply c.moved-moved_core.result
    l.g l.u r.result.taken l.replied (l.refused + r.result.refused) l.taken =
    let t = c.fast_path-fast.ensures in
    resumed c.loop-taken.invariant.0 (omega (arith, c.loop-taken-test.true)) t.0 t.1 c.moved-moved_core.ensures in
    let l = c.loop-taken in
    let g = ready l.invariant.0 in
    let same = eqb c.fast_path-fast.result.taken l.taken in (
      (ready (run).running).0,
      moved_behind l.c same c.fast_path-fast.result.at same c.fast_path-fast.new.page c.moved-moved_core.ensures
          (path_behind l.c g.1.0 (omega (arith, c.loop-taken-test.true)) c.fast_path-fast.ensures.0 l.invariant.1.0),
    )

pub loop-taken-preserved-then-input-taken : goal.loop-taken-preserved-then-input-taken
loop-taken-preserved-then-input-taken c =
    let room = c.resume-sent.new.reply in
    let whole = let x = c.args in
    run_behind x.stop x.page.now x.state.core x.state.gathered x.state.setup x.input.now (room) c.resume-sent.result.replied in
    let run : let x = c.args in let l = c.loop-taken in let r = c.fast_path-fast in
    Resumed x.stop x.page.now (whole) x.input.now (room) r.new.page l.reply c.moved-moved_core.result
    l.g l.u r.result.taken l.replied (l.refused + r.result.refused) l.taken =
    let t = c.fast_path-fast.ensures in
    resumed c.loop-taken.invariant.0 (omega (arith, c.loop-taken-test.true)) t.0 t.1 c.moved-moved_core.ensures in
    let listed : length c.follow_path.new.rows ≡ length c.args.rows.now =
    c.follow_path.auto.rows ∙ c.loop-taken.invariant.1.1 in
    ((run).running, (c.follow_path.ensures, listed))

pub awaited-s-requires : goal.awaited-s-requires
awaited-s-requires c =
    let room = c.resume-sent.new.reply in
    let whole = let x = c.args in
    run_behind x.stop x.page.now x.state.core x.state.gathered x.state.setup x.input.now (room) c.resume-sent.result.replied in
    let run : let x = c.args in let l = c.loop-taken in let r = c.fast_path-fast in
    Resumed x.stop x.page.now (whole) x.input.now (room) r.new.page l.reply c.moved-moved_core.result
    l.g l.u r.result.taken l.replied (l.refused + r.result.refused) l.taken =
    let t = c.fast_path-fast.ensures in
    resumed c.loop-taken.invariant.0 (omega (arith, c.loop-taken-test.true)) t.0 t.1 c.moved-moved_core.ensures in
    let r = run in ((ready r.running).1.1.0, r.left)

pub loop-taken-preserved-then-input-taken-2 : goal.loop-taken-preserved-then-input-taken-2
loop-taken-preserved-then-input-taken-2 c =
    let room = c.resume-sent.new.reply in
    let whole = let x = c.args in
    run_behind x.stop x.page.now x.state.core x.state.gathered x.state.setup x.input.now (room) c.resume-sent.result.replied in
    let run : let x = c.args in let l = c.loop-taken in let r = c.fast_path-fast in
    Resumed x.stop x.page.now (whole) x.input.now (room) r.new.page l.reply c.moved-moved_core.result
    l.g l.u r.result.taken l.replied (l.refused + r.result.refused) l.taken =
    let t = c.fast_path-fast.ensures in
    resumed c.loop-taken.invariant.0 (omega (arith, c.loop-taken-test.true)) t.0 t.1 c.moved-moved_core.ensures in
    let past : let x = c.args in let l = c.loop-taken in
    Resumed x.stop x.page.now (whole) x.input.now (room) c.fast_path-fast.new.page l.reply
    c.awaiting-waiting.result l.g l.u c.awaited-s.result.taken l.replied (l.refused + c.fast_path-fast.result.refused) l.taken =
    passed (run) c.awaited-s.ensures.0 c.awaiting-waiting.ensures in
    let beside : let d = c.awaiting-waiting.result in
    Beside (width_of d.screen) (guarded_at d.modes.protect c.fast_path-fast.new.page) c.follow_path.new.rows =
    passed_beside c.moved-moved_core.result c.fast_path-fast.new.page c.awaiting-waiting.ensures c.follow_path.ensures in
    let listed : length c.follow_path.new.rows ≡ length c.args.rows.now =
    c.follow_path.auto.rows ∙ c.loop-taken.invariant.1.1 in
    ((past).running, (beside, listed))

pub inner-t-requires : goal.inner-t-requires
inner-t-requires c =
    let room = c.resume-sent.new.reply in
    let whole = let x = c.args in
    run_behind x.stop x.page.now x.state.core x.state.gathered x.state.setup x.input.now (room) c.resume-sent.result.replied in
    let run : let x = c.args in let l = c.loop-taken in let r = c.fast_path-fast in
    Resumed x.stop x.page.now (whole) x.input.now (room) r.new.page l.reply c.moved-moved_core.result
    l.g l.u r.result.taken l.replied (l.refused + r.result.refused) l.taken =
    let t = c.fast_path-fast.ensures in
    resumed c.loop-taken.invariant.0 (omega (arith, c.loop-taken-test.true)) t.0 t.1 c.moved-moved_core.ensures in
    let past : let x = c.args in let l = c.loop-taken in
    Resumed x.stop x.page.now (whole) x.input.now (room) c.fast_path-fast.new.page l.reply
    c.awaiting-waiting.result l.g l.u c.awaited-s.result.taken l.replied (l.refused + c.fast_path-fast.result.refused) l.taken =
    passed (run) c.awaited-s.ensures.0 c.awaiting-waiting.ensures in
    let beside : let d = c.awaiting-waiting.result in
    Beside (width_of d.screen) (guarded_at d.modes.protect c.fast_path-fast.new.page) c.follow_path.new.rows =
    passed_beside c.moved-moved_core.result c.fast_path-fast.new.page c.awaiting-waiting.ensures c.follow_path.ensures in
    let g = ready (past).running in
    let came = c.awaited-s.ensures.1 c.if-input-taken-2.false in (
      g.0,
      (
        g.1.0,
        (
          g.1.1.0,
          (g.1.1.1, (beside, λ low. passed_reads c.moved-moved_core.result _ c.awaiting-waiting.ensures (came low))),
        ),
      ),
    )

pub returns-then-is_no_room : goal.returns-then-is_no_room
returns-then-is_no_room c =
    let heard : let x = c.args in sends x.state.sending ≡ true → 0 < length x.reply.now =
    λ u. (elim c.else-under.branch [
      | else-under-via-then-under+else-is_empty w ↦ omega (arith, eqb-false _ _ (sym w.is_empty.ensures ∙ w.if-is_empty.false))
      | else-under-via-else-under w ↦ absurd (false≢true (sym w.if-under.false ∙ (c.is_sending-under.ensures ∙ u)))
    ]) in
    let ends : c.if-stop.ends ≡ both c.args.stop (sends c.args.state.sending) =
    elim c.if-stop.branch [
      | then-stop w ↦ rw w.if-stop.true (w.ends-is ∙ c.is_sending-under.ensures)
      | else-stop w ↦ rw w.if-stop.false (w.ends-is ∙ w.if-stop.false)
    ] in
    let room = c.resume-sent.new.reply in
    let whole = let x = c.args in
    run_behind x.stop x.page.now x.state.core x.state.gathered x.state.setup x.input.now (room) c.resume-sent.result.replied in
    let on : (z : RunResult) (p w : List ℕ) → let x = c.args in
    RunDone (whole) z x.input.now p (room) w
    → RunDone (call_to x.stop x.page.now x.state x.input.now (length x.reply.now)) z x.input.now p x.reply.now w =
    λ z p w k. run_on_lem c.args.page.now c.args.state c.requires.0 c.resume-sent.ensures (heard) c.args.stop
    (rw (sym c.is_sending.ensures ∙ c.if-is_sending.false) (sym (ends) ∙ c.if-ends.false)) k in
    let run : let x = c.args in let l = c.loop-taken in let r = c.fast_path-fast in
    Resumed x.stop x.page.now (whole) x.input.now (room) r.new.page l.reply c.moved-moved_core.result
    l.g l.u r.result.taken l.replied (l.refused + r.result.refused) l.taken =
    let t = c.fast_path-fast.ensures in
    resumed c.loop-taken.invariant.0 (omega (arith, c.loop-taken-test.true)) t.0 t.1 c.moved-moved_core.ensures in
    let past : let x = c.args in let l = c.loop-taken in
    Resumed x.stop x.page.now (whole) x.input.now (room) c.fast_path-fast.new.page l.reply
    c.awaiting-waiting.result l.g l.u c.awaited-s.result.taken l.replied (l.refused + c.fast_path-fast.result.refused) l.taken =
    passed (run) c.awaited-s.ensures.0 c.awaiting-waiting.ensures in
    let r = past in
    let six = sym c.is_no_room.ensures ∙ c.if-is_no_room.true in (
      on _ _ _ (stops r.running c.if-input-taken-2.false c.inner-t.ensures.0 six c.finished-then-is_no_room.ensures),
      ended_beside c.finished-then-is_no_room.result c.inner-t.new.page (ap (λ (z : RunResult). z.state.core) c.finished-then-is_no_room.ensures)
          (stop_beside r.running c.if-input-taken-2.false c.inner-t.ensures.0 six c.inner-t.ensures.1),
    )

pub overflow_add-refused-in-loop-taken : goal.overflow_add-refused-in-loop-taken
overflow_add-refused-in-loop-taken c =
    let room = c.resume-sent.new.reply in
    let whole = let x = c.args in
    run_behind x.stop x.page.now x.state.core x.state.gathered x.state.setup x.input.now (room) c.resume-sent.result.replied in
    let run : let x = c.args in let l = c.loop-taken in let r = c.fast_path-fast in
    Resumed x.stop x.page.now (whole) x.input.now (room) r.new.page l.reply c.moved-moved_core.result
    l.g l.u r.result.taken l.replied (l.refused + r.result.refused) l.taken =
    let t = c.fast_path-fast.ensures in
    resumed c.loop-taken.invariant.0 (omega (arith, c.loop-taken-test.true)) t.0 t.1 c.moved-moved_core.ensures in
    let past : let x = c.args in let l = c.loop-taken in
    Resumed x.stop x.page.now (whole) x.input.now (room) c.fast_path-fast.new.page l.reply
    c.awaiting-waiting.result l.g l.u c.awaited-s.result.taken l.replied (l.refused + c.fast_path-fast.result.refused) l.taken =
    passed (run) c.awaited-s.ensures.0 c.awaiting-waiting.ensures in
    let f = more_refused (past).running (number c.inner-t.result.answer) c.if-input-taken-2.false in
    omega (arith, f, c.refusals-refused.ensures, c.well_formed)

pub returns-then-event : goal.returns-then-event
returns-then-event c =
    let heard : let x = c.args in sends x.state.sending ≡ true → 0 < length x.reply.now =
    λ u. (elim c.else-under.branch [
      | else-under-via-then-under+else-is_empty w ↦ omega (arith, eqb-false _ _ (sym w.is_empty.ensures ∙ w.if-is_empty.false))
      | else-under-via-else-under w ↦ absurd (false≢true (sym w.if-under.false ∙ (c.is_sending-under.ensures ∙ u)))
    ]) in
    let ends : c.if-stop.ends ≡ both c.args.stop (sends c.args.state.sending) =
    elim c.if-stop.branch [
      | then-stop w ↦ rw w.if-stop.true (w.ends-is ∙ c.is_sending-under.ensures)
      | else-stop w ↦ rw w.if-stop.false (w.ends-is ∙ w.if-stop.false)
    ] in
    let room = c.resume-sent.new.reply in
    let whole = let x = c.args in
    run_behind x.stop x.page.now x.state.core x.state.gathered x.state.setup x.input.now (room) c.resume-sent.result.replied in
    let on : (z : RunResult) (p w : List ℕ) → let x = c.args in
    RunDone (whole) z x.input.now p (room) w
    → RunDone (call_to x.stop x.page.now x.state x.input.now (length x.reply.now)) z x.input.now p x.reply.now w =
    λ z p w k. run_on_lem c.args.page.now c.args.state c.requires.0 c.resume-sent.ensures (heard) c.args.stop
    (rw (sym c.is_sending.ensures ∙ c.if-is_sending.false) (sym (ends) ∙ c.if-ends.false)) k in
    let run : let x = c.args in let l = c.loop-taken in let r = c.fast_path-fast in
    Resumed x.stop x.page.now (whole) x.input.now (room) r.new.page l.reply c.moved-moved_core.result
    l.g l.u r.result.taken l.replied (l.refused + r.result.refused) l.taken =
    let t = c.fast_path-fast.ensures in
    resumed c.loop-taken.invariant.0 (omega (arith, c.loop-taken-test.true)) t.0 t.1 c.moved-moved_core.ensures in
    let past : let x = c.args in let l = c.loop-taken in
    Resumed x.stop x.page.now (whole) x.input.now (room) c.fast_path-fast.new.page l.reply
    c.awaiting-waiting.result l.g l.u c.awaited-s.result.taken l.replied (l.refused + c.fast_path-fast.result.refused) l.taken =
    passed (run) c.awaited-s.ensures.0 c.awaiting-waiting.ensures in
    let stopping = c.args.stop in
    let event = let t = c.inner-t.result in is_event (number t.answer) t.replied in
    let tested : c.if-stop-2.event ≡ both (stopping) (event) =
    elim c.if-stop-2.branch [
      | then-stop-2 w ↦ rw w.if-stop-2.true (w.event-is ∙ w.is_event-event.ensures)
      | else-stop-2 w ↦ rw w.if-stop-2.false (w.event-is ∙ w.if-stop-2.false)
    ] in
    let r = past in
    let n = nothing_made _ _ _ (sym c.is_nothing.ensures ∙ c.if-is_nothing.true) in
    let other = sym c.is_no_room.ensures ∙ c.if-is_no_room.false in
    let told = sym (tested) ∙ c.if-event.true in (
      on _ _ _ (halt r.running c.if-input-taken-2.false c.inner-t.ensures.0 other n.0 n.1.0 (sym n.1.1)
          c.refusals-refused.ensures
          (event_ends (stopping) (event) told) (event_answer (stopping) (event) told) c.finished-then-event.ensures),
      ended_beside c.finished-then-event.result c.inner-t.new.page (ap (λ (z : RunResult). z.state.core) c.finished-then-event.ensures)
          (go_beside r.running c.if-input-taken-2.false c.inner-t.ensures.0 other c.inner-t.ensures.1),
    )

pub loop-taken-smaller-then-is_nothing : goal.loop-taken-smaller-then-is_nothing
loop-taken-smaller-then-is_nothing c =
    let room = c.resume-sent.new.reply in
    let whole = let x = c.args in
    run_behind x.stop x.page.now x.state.core x.state.gathered x.state.setup x.input.now (room) c.resume-sent.result.replied in
    let run : let x = c.args in let l = c.loop-taken in let r = c.fast_path-fast in
    Resumed x.stop x.page.now (whole) x.input.now (room) r.new.page l.reply c.moved-moved_core.result
    l.g l.u r.result.taken l.replied (l.refused + r.result.refused) l.taken =
    let t = c.fast_path-fast.ensures in
    resumed c.loop-taken.invariant.0 (omega (arith, c.loop-taken-test.true)) t.0 t.1 c.moved-moved_core.ensures in
    let past : let x = c.args in let l = c.loop-taken in
    Resumed x.stop x.page.now (whole) x.input.now (room) c.fast_path-fast.new.page l.reply
    c.awaiting-waiting.result l.g l.u c.awaited-s.result.taken l.replied (l.refused + c.fast_path-fast.result.refused) l.taken =
    passed (run) c.awaited-s.ensures.0 c.awaiting-waiting.ensures in
    omega (arith, (past).from, c.if-input-taken-2.false)

pub loop-taken-preserved-then-is_nothing : goal.loop-taken-preserved-then-is_nothing
loop-taken-preserved-then-is_nothing c =
    let room = c.resume-sent.new.reply in
    let whole = let x = c.args in
    run_behind x.stop x.page.now x.state.core x.state.gathered x.state.setup x.input.now (room) c.resume-sent.result.replied in
    let run : let x = c.args in let l = c.loop-taken in let r = c.fast_path-fast in
    Resumed x.stop x.page.now (whole) x.input.now (room) r.new.page l.reply c.moved-moved_core.result
    l.g l.u r.result.taken l.replied (l.refused + r.result.refused) l.taken =
    let t = c.fast_path-fast.ensures in
    resumed c.loop-taken.invariant.0 (omega (arith, c.loop-taken-test.true)) t.0 t.1 c.moved-moved_core.ensures in
    let past : let x = c.args in let l = c.loop-taken in
    Resumed x.stop x.page.now (whole) x.input.now (room) c.fast_path-fast.new.page l.reply
    c.awaiting-waiting.result l.g l.u c.awaited-s.result.taken l.replied (l.refused + c.fast_path-fast.result.refused) l.taken =
    passed (run) c.awaited-s.ensures.0 c.awaiting-waiting.ensures in
    let listed : length c.follow_path.new.rows ≡ length c.args.rows.now =
    c.follow_path.auto.rows ∙ c.loop-taken.invariant.1.1 in
    let sized : length c.inner-t.new.rows ≡ length c.args.rows.now =
    c.inner-t.auto.rows ∙ listed in
    let stopping = c.args.stop in
    let event = let t = c.inner-t.result in is_event (number t.answer) t.replied in
    let tested : c.if-stop-2.event ≡ both (stopping) (event) =
    elim c.if-stop-2.branch [
      | then-stop-2 w ↦ rw w.if-stop-2.true (w.event-is ∙ w.is_event-event.ensures)
      | else-stop-2 w ↦ rw w.if-stop-2.false (w.event-is ∙ w.if-stop-2.false)
    ] in
    let r = past in
    let n = nothing_made _ _ _ (sym c.is_nothing.ensures ∙ c.if-is_nothing.true) in
    let other = sym c.is_no_room.ensures ∙ c.if-is_no_room.false in (
      go r.running c.if-input-taken-2.false c.inner-t.ensures.0 other n.0 n.1.0 (sym n.1.1)
          c.refusals-refused.ensures refl
          (no_event (stopping) (event) (sym (tested) ∙ c.if-event.false)),
      (go_beside r.running c.if-input-taken-2.false c.inner-t.ensures.0 other c.inner-t.ensures.1, sized),
    )

pub returns-then-event-2 : goal.returns-then-event-2
returns-then-event-2 c =
    let heard : let x = c.args in sends x.state.sending ≡ true → 0 < length x.reply.now =
    λ u. (elim c.else-under.branch [
      | else-under-via-then-under+else-is_empty w ↦ omega (arith, eqb-false _ _ (sym w.is_empty.ensures ∙ w.if-is_empty.false))
      | else-under-via-else-under w ↦ absurd (false≢true (sym w.if-under.false ∙ (c.is_sending-under.ensures ∙ u)))
    ]) in
    let ends : c.if-stop.ends ≡ both c.args.stop (sends c.args.state.sending) =
    elim c.if-stop.branch [
      | then-stop w ↦ rw w.if-stop.true (w.ends-is ∙ c.is_sending-under.ensures)
      | else-stop w ↦ rw w.if-stop.false (w.ends-is ∙ w.if-stop.false)
    ] in
    let room = c.resume-sent.new.reply in
    let whole = let x = c.args in
    run_behind x.stop x.page.now x.state.core x.state.gathered x.state.setup x.input.now (room) c.resume-sent.result.replied in
    let on : (z : RunResult) (p w : List ℕ) → let x = c.args in
    RunDone (whole) z x.input.now p (room) w
    → RunDone (call_to x.stop x.page.now x.state x.input.now (length x.reply.now)) z x.input.now p x.reply.now w =
    λ z p w k. run_on_lem c.args.page.now c.args.state c.requires.0 c.resume-sent.ensures (heard) c.args.stop
    (rw (sym c.is_sending.ensures ∙ c.if-is_sending.false) (sym (ends) ∙ c.if-ends.false)) k in
    let run : let x = c.args in let l = c.loop-taken in let r = c.fast_path-fast in
    Resumed x.stop x.page.now (whole) x.input.now (room) r.new.page l.reply c.moved-moved_core.result
    l.g l.u r.result.taken l.replied (l.refused + r.result.refused) l.taken =
    let t = c.fast_path-fast.ensures in
    resumed c.loop-taken.invariant.0 (omega (arith, c.loop-taken-test.true)) t.0 t.1 c.moved-moved_core.ensures in
    let past : let x = c.args in let l = c.loop-taken in
    Resumed x.stop x.page.now (whole) x.input.now (room) c.fast_path-fast.new.page l.reply
    c.awaiting-waiting.result l.g l.u c.awaited-s.result.taken l.replied (l.refused + c.fast_path-fast.result.refused) l.taken =
    passed (run) c.awaited-s.ensures.0 c.awaiting-waiting.ensures in
    let stopping = c.args.stop in
    let event = let t = c.inner-t.result in is_event (number t.answer) t.replied in
    let tested : c.if-stop-2.event ≡ both (stopping) (event) =
    elim c.if-stop-2.branch [
      | then-stop-2 w ↦ rw w.if-stop-2.true (w.event-is ∙ w.is_event-event.ensures)
      | else-stop-2 w ↦ rw w.if-stop-2.false (w.event-is ∙ w.if-stop-2.false)
    ] in
    let r = past in
    let other = sym c.is_no_room.ensures ∙ c.if-is_no_room.false in (
      on _ _ _ (halt r.running c.if-input-taken-2.false c.inner-t.ensures.0 other c.gathered_after-h.ensures
          c.setup_after-v.ensures
          c.sending_after-left.ensures c.refusals-refused.ensures (elim c.then-event-2.branch [
            | then-event-2-via-then-event-2 w ↦ either_first _ (sym (tested) ∙ w.if-event-2.true)
            | then-event-2-via-else-event-2+then-is_sending-2 w ↦
                either_second _ (sym w.is_sending-else-event-2.ensures ∙ w.if-is_sending-2.true)
          ]) c.answer_to.ensures
          c.finished-then-event-2.ensures),
      ended_beside c.finished-then-event-2.result c.inner-t.new.page (ap (λ (z : RunResult). z.state.core) c.finished-then-event-2.ensures)
          (go_beside r.running c.if-input-taken-2.false c.inner-t.ensures.0 other c.inner-t.ensures.1),
    )

pub loop-taken-smaller : goal.loop-taken-smaller
loop-taken-smaller c =
    let room = c.resume-sent.new.reply in
    let whole = let x = c.args in
    run_behind x.stop x.page.now x.state.core x.state.gathered x.state.setup x.input.now (room) c.resume-sent.result.replied in
    let run : let x = c.args in let l = c.loop-taken in let r = c.fast_path-fast in
    Resumed x.stop x.page.now (whole) x.input.now (room) r.new.page l.reply c.moved-moved_core.result
    l.g l.u r.result.taken l.replied (l.refused + r.result.refused) l.taken =
    let t = c.fast_path-fast.ensures in
    resumed c.loop-taken.invariant.0 (omega (arith, c.loop-taken-test.true)) t.0 t.1 c.moved-moved_core.ensures in
    let past : let x = c.args in let l = c.loop-taken in
    Resumed x.stop x.page.now (whole) x.input.now (room) c.fast_path-fast.new.page l.reply
    c.awaiting-waiting.result l.g l.u c.awaited-s.result.taken l.replied (l.refused + c.fast_path-fast.result.refused) l.taken =
    passed (run) c.awaited-s.ensures.0 c.awaiting-waiting.ensures in
    omega (arith, (past).from, c.if-input-taken-2.false)

pub loop-taken-preserved : goal.loop-taken-preserved
loop-taken-preserved c =
    let heard : let x = c.args in sends x.state.sending ≡ true → 0 < length x.reply.now =
    λ u. (elim c.else-under.branch [
      | else-under-via-then-under+else-is_empty w ↦ omega (arith, eqb-false _ _ (sym w.is_empty.ensures ∙ w.if-is_empty.false))
      | else-under-via-else-under w ↦ absurd (false≢true (sym w.if-under.false ∙ (c.is_sending-under.ensures ∙ u)))
    ]) in
    let ends : c.if-stop.ends ≡ both c.args.stop (sends c.args.state.sending) =
    elim c.if-stop.branch [
      | then-stop w ↦ rw w.if-stop.true (w.ends-is ∙ c.is_sending-under.ensures)
      | else-stop w ↦ rw w.if-stop.false (w.ends-is ∙ w.if-stop.false)
    ] in
    let room = c.resume-sent.new.reply in
    let whole = let x = c.args in
    run_behind x.stop x.page.now x.state.core x.state.gathered x.state.setup x.input.now (room) c.resume-sent.result.replied in
    let on : (z : RunResult) (p w : List ℕ) → let x = c.args in
    RunDone (whole) z x.input.now p (room) w
    → RunDone (call_to x.stop x.page.now x.state x.input.now (length x.reply.now)) z x.input.now p x.reply.now w =
    λ z p w k. run_on_lem c.args.page.now c.args.state c.requires.0 c.resume-sent.ensures (heard) c.args.stop
    (rw (sym c.is_sending.ensures ∙ c.if-is_sending.false) (sym (ends) ∙ c.if-ends.false)) k in
    let run : let x = c.args in let l = c.loop-taken in let r = c.fast_path-fast in
    Resumed x.stop x.page.now (whole) x.input.now (room) r.new.page l.reply c.moved-moved_core.result
    l.g l.u r.result.taken l.replied (l.refused + r.result.refused) l.taken =
    let t = c.fast_path-fast.ensures in
    resumed c.loop-taken.invariant.0 (omega (arith, c.loop-taken-test.true)) t.0 t.1 c.moved-moved_core.ensures in
    let past : let x = c.args in let l = c.loop-taken in
    Resumed x.stop x.page.now (whole) x.input.now (room) c.fast_path-fast.new.page l.reply
    c.awaiting-waiting.result l.g l.u c.awaited-s.result.taken l.replied (l.refused + c.fast_path-fast.result.refused) l.taken =
    passed (run) c.awaited-s.ensures.0 c.awaiting-waiting.ensures in
    let listed : length c.follow_path.new.rows ≡ length c.args.rows.now =
    c.follow_path.auto.rows ∙ c.loop-taken.invariant.1.1 in
    let sized : length c.inner-t.new.rows ≡ length c.args.rows.now =
    c.inner-t.auto.rows ∙ listed in
    let stopping = c.args.stop in
    let event = let t = c.inner-t.result in is_event (number t.answer) t.replied in
    let tested : c.if-stop-2.event ≡ both (stopping) (event) =
    elim c.if-stop-2.branch [
      | then-stop-2 w ↦ rw w.if-stop-2.true (w.event-is ∙ w.is_event-event.ensures)
      | else-stop-2 w ↦ rw w.if-stop-2.false (w.event-is ∙ w.if-stop-2.false)
    ] in
    let r = past in
    let other = sym c.is_no_room.ensures ∙ c.if-is_no_room.false in (
      go r.running c.if-input-taken-2.false c.inner-t.ensures.0 other c.gathered_after-h.ensures
          c.setup_after-v.ensures
          c.sending_after-left.ensures c.refusals-refused.ensures (not_sending _ (sym c.is_sending-else-event-2.ensures ∙ c.if-is_sending-2.false))
          (no_event (stopping) (event) (sym (tested) ∙ c.if-event-2.false)),
      (go_beside r.running c.if-input-taken-2.false c.inner-t.ensures.0 other c.inner-t.ensures.1, sized),
    )

pub returns : goal.returns
returns c =
    let heard : let x = c.args in sends x.state.sending ≡ true → 0 < length x.reply.now =
    λ u. (elim c.else-under.branch [
      | else-under-via-then-under+else-is_empty w ↦ omega (arith, eqb-false _ _ (sym w.is_empty.ensures ∙ w.if-is_empty.false))
      | else-under-via-else-under w ↦ absurd (false≢true (sym w.if-under.false ∙ (c.is_sending-under.ensures ∙ u)))
    ]) in
    let ends : c.if-stop.ends ≡ both c.args.stop (sends c.args.state.sending) =
    elim c.if-stop.branch [
      | then-stop w ↦ rw w.if-stop.true (w.ends-is ∙ c.is_sending-under.ensures)
      | else-stop w ↦ rw w.if-stop.false (w.ends-is ∙ w.if-stop.false)
    ] in
    let room = c.resume-sent.new.reply in
    let whole = let x = c.args in
    run_behind x.stop x.page.now x.state.core x.state.gathered x.state.setup x.input.now (room) c.resume-sent.result.replied in
    let on : (z : RunResult) (p w : List ℕ) → let x = c.args in
    RunDone (whole) z x.input.now p (room) w
    → RunDone (call_to x.stop x.page.now x.state x.input.now (length x.reply.now)) z x.input.now p x.reply.now w =
    λ z p w k. run_on_lem c.args.page.now c.args.state c.requires.0 c.resume-sent.ensures (heard) c.args.stop
    (rw (sym c.is_sending.ensures ∙ c.if-is_sending.false) (sym (ends) ∙ c.if-ends.false)) k in
    let l = c.loop-taken in (
      on _ _ _ (finish l.invariant.0 c.loop-taken-test.false c.finished-2.ensures),
      ended_beside c.finished-2.result l.page (ap (λ (z : RunResult). z.state.core) c.finished-2.ensures) l.invariant.1.0,
    )
