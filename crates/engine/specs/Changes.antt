-- What the changes of document 02 promise, of the engine: over every list of calls from what clear gives, as demand 3, or of a call over any stores of listed size.
-- Assumes nothing.
use Rattle.std.specs.Prelude.{Bool, true, List, ◌≡◌, length, ℕ, ◌^◌, ◌≤◌, ◌<◌, Ok}
use Rattle.std.proofs.Common.{sym, ap, ◌∙◌}
use Rattle.machine.specs.State.{State, fresh, limit, handler_store}
use Rattle.machine.specs.Value.{number}
use Rattle.machine.specs.Act.{plain}
use Rattle.machine.specs.Number as N
use Rattle.machine.specs.NumberText.{longest_text, number_answer}
use Rattle.machine.specs.Host as H
use Rattle.machine.specs.Host.{history}
use Rattle.machine.specs.Tally.{nothing}
use Rattle.machine.specs.Demand3.{All, Drops, ThrowsCalls}
use Rattle.machine.specs.Tries.{Tried}
use Rattle.machine.specs.Opcodes.{AsListed}
use Rattle.machine.proofs.Enter.{calls_try}
use Rattle.machine.proofs.Opcodes.{calls_listed}
use Rattle.machine.proofs.Calls.{orderly_leaves}
use Rattle.machine.proofs.NumberText.{number_call, number_fits}
use Rattle.machine.proofs.Engine as Machine-as-Engine
use Rattle.stacks.specs.View.{handlers_of}
use Rattle.heapops.specs.declared.Counts.{Counts}
use Rattle.heapops.specs.Turns.{Mem}
use Rattle.texts.specs.Overwrite.{overwrite}
use Rattle.finish.specs.Parts.{Tables}
use Rattle.run.specs.Runs.{state_in}
use Rattle.host.specs.Calls.{Clears, Called, Buffered, buffer_by, lent}
use Rattle.host.specs.Lent.{lent_within}
use Rattle.engine.specs.Demand3.{Engine, engine, Made, demand3}

module _ {g g' : Tables} {m m' : Mem} {c : Counts} {calls : List H.Call} {answers : List H.Answer} {e : Engine}
    (k : Clears g m (Ok c) g' m') (r : Made (engine c g' m') calls answers e) where
  -- Change 1: in the history that the engine's answers tell, each EnterTry gives 14 where it is cut off, else 22 where the handlers are at their limit, else it
  -- goes on; and no more handlers than that are pending afterwards.
  pub handlers_limited : All (λ d. All Tried d.steps) (history fresh calls) × (answers ≡ Machine-as-Engine.answers (history fresh calls)) × (e.counts.depths.handlers ≤ limit handler_store)
  handlers_limited = let d = demand3 k r in (calls_try calls, d.1, (lent_within {c = e.counts} {g = e.tables} {m = e.mem} (record { right = d.2.right })).handlers)

  -- Change 5: in that history a Return, or a frame that runs off the end of its code, drops each handler that saved more frames than are left and no other, and a
  -- caught Throw leaves exactly the frames that its handler saved; in the engine's stores no pending handler names more frames than stand.
  pub handlers_dropped : All (λ d. All Drops d.steps) (history fresh calls) × ThrowsCalls nothing (history fresh calls) × (answers ≡ Machine-as-Engine.answers (history fresh calls))
      × All (λ h. h.frames ≤ e.counts.depths.frames) (handlers_of e.mem.stacks e.counts.depths.handlers)
  handlers_dropped =
      let d = demand3 k r in (
        d.0.drops,
        d.0.throws,
        d.1,
        rw (ap (λ (x : Counts). x.depths.frames) d.3) (rw (ap (λ (x : State). x.handlers) d.2.state) (orderly_leaves calls).handlers),
      )

  -- Change 6: in that history each step that begins an opcode comes out as the opcode's row says: 13, 14, 15, and how many operands it leaves.
  pub opcodes_listed : All (λ d. All AsListed d.steps) (history fresh calls) × (answers ≡ Machine-as-Engine.answers (history fresh calls))
  opcodes_listed = (calls_listed calls, (demand3 k r).1)

module _ {c c' : Counts} {g g' : Tables} {m m' : Mem} {b b' : List ℕ} {a : H.Answer} {n : ℕ}
    (k : Called (H.text (plain (number n)) (length b)) c g m a c' g' m') (f : Buffered a b b') (l : lent c g m ≡ true) where
  -- Change 4: the text call of a number answers its text, or 31 where the buffer is shorter.
  pub number_answered : a ≡ number_answer n (length b)
  number_answered =
      sym (k.machine (λ q. tt)).0 ∙ ap (λ (t : Bool). (H.perform_on t (H.text (plain (number n)) (length b)) (state_in c g m)).answer) l
      ∙ number_call n (length b) (state_in c g m)

  -- A buffer for the longest text has room for every number's, which stands at its start then.
  pub number_written : n < 2 ^ 64 → longest_text ≤ length b → (a ≡ H.wrote (N.format_js_number n)) × (b' ≡ overwrite b 0 (N.format_js_number n))
  number_written h r = let e = number_answered ∙ number_fits n (length b) h r in (e, f.bytes ∙ ap (λ (x : H.Answer). buffer_by x b) e)
