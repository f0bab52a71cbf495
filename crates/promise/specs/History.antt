-- The nodes that a run executes in each open frame, kept or dropped: what the last setting of a variable is read from.
use Rattle.std.specs.Prelude.{ℕ, ◌-◌, Bool, ◌&&◌, List, [], ◌∷◌, ◌++◌, eqb, ℤ}
use Rattle.std.proofs.Math.Option.{Option, some}
use Rattle.table.specs.Mask.{pick}
use Rattle.table.specs.Table.{node_at, Act, alone, waits, signals, sends, receives, calls, returns, variable_set, act}
use Rattle.table.specs.declared.Table.{Table}
use Rattle.closing.specs.Closing.{sets_var}
use Rattle.machine.specs.declared.State.{State}
use Rattle.machine.specs.State.{open_frames, Begun, spent, begun, begin}
use Rattle.machine.specs.Step.{kept_in, Entry}
use Rattle.machine.specs.Run.{CompletedStep, course_from}

-- by task and frame: the nodes executed in the frame since its entry, the oldest first
abbrev pub History : Type 0
History = ℕ → ℕ → List ℕ

abbrev pub is_at : ℕ → ℕ → ℕ → ℕ → Bool
is_at k j k' j' = eqb k k' && eqb j j'

-- the nodes ns executed in frame j of task k
abbrev pub executed : ℕ → ℕ → List ℕ → History → History
executed k j ns h = λ k' j'. pick (is_at k j k' j') (h k' j' ++ ns) (h k' j')

-- frame j of task k entered
abbrev pub entered : ℕ → ℕ → History → History
entered k j h = λ k' j'. pick (is_at k j k' j') [] (h k' j')

-- after the step of task k, with d frames open, at node n and then at the dropped nodes ns, by what the node does
abbrev pub after_act : ℕ → ℕ → ℕ → List ℕ → History → Act → History
after_act k d n ns h (calls q xs) = entered k d (executed k (d - 1) (n ∷ []) h)
after_act k d n ns h returns = executed k (d - 2) ns h
after_act k d n ns h alone = executed k (d - 1) (n ∷ ns) h
after_act k d n ns h (waits i) = executed k (d - 1) (n ∷ ns) h
after_act k d n ns h (signals i) = executed k (d - 1) (n ∷ ns) h
after_act k d n ns h (sends q v) = executed k (d - 1) (n ∷ ns) h
after_act k d n ns h (receives q v) = executed k (d - 1) (n ∷ ns) h

-- after a completed step from state s
abbrev pub noted_after : Table → State → Entry → List ℕ → History → History
noted_after t s e ns h = after_act e.task (open_frames s e.task) e.node ns h (act (node_at t e.proc e.node))

-- after completed steps, from state s
unfoldable pub history_from : Table → State → History → List CompletedStep → History
history_from t s h [] = h
history_from t s h (c ∷ cs) = history_from t c.state (noted_after t s c.entry c.dropped h) cs

abbrev pub history_begun : Table → List ℕ → ℕ → ℕ → Begun → History
history_begun t ks most room spent = λ k j. []
history_begun t ks most room (begun s rest) = history_from t s (λ k j. []) (course_from t (kept_in t) most room ks 0 s rest).steps

-- of the run of a schedule, with so many dropped nodes allowed and a log buffer of so many bytes
unfoldable pub history : Table → List ℕ → List ℤ → ℕ → ℕ → History
history t ks vs most room = history_begun t ks most room (begin t vs)

-- "the later of the entry and the last node, kept or dropped, executed in that frame that set it": of v, in a frame of
-- procedure p; `none` is the entry, `last` what was the last setting before the nodes
unfoldable pub last_setting : Table → ℕ → ℕ → Option ℕ → List ℕ → Option ℕ
last_setting t p v last [] = last
last_setting t p v last (n ∷ ns) = last_setting t p v (pick (sets_var (variable_set (node_at t p n)) v) (some n) last) ns
