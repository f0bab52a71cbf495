use Rattle.words.specs.WordLaws.{check_start, check_start_late, check_read, check_first, check_later}
use Rattle.words.proofs.kind_check.Goals as goal
use Rattle.words.proofs.kind_check.Goals.{in_default-via-in-Read+else-closed, in_default-via-in_default}

pub returns-in-Start : goal.returns-in-Start
returns-in-Start c = rw c.in-Start.is (check_start c.args.closed c.if-j-eq0.true)

pub returns-in-Start-2 : goal.returns-in-Start-2
returns-in-Start-2 c = rw c.in-Start-2.is (check_start_late c.args.closed c.args.j c.if-j-eq0.false)

pub returns-in-Read : goal.returns-in-Read
returns-in-Read c = rw c.in-Read.is (check_read c.args.j c.if-closed.true)

pub returns-in_default : goal.returns-in_default
returns-in_default c =
    elim c.in_default.branch [
      | in_default-via-in-Read+else-closed w ↦ check_first (λ e. cc (e, w.in-Read.is)) (λ e. w.if-closed.false) c.if-j-eq0-2.true
      | in_default-via-in_default w ↦ check_first w.in_default.not-Start (λ e. absurd (w.in_default.not-Read e)) c.if-j-eq0-2.true
    ]

pub returns-in_default-2 : goal.returns-in_default-2
returns-in_default-2 c =
    elim c.in_default.branch [
      | in_default-via-in-Read+else-closed w ↦ check_later (λ e. cc (e, w.in-Read.is)) (λ e. w.if-closed.false) c.args.j c.if-j-eq0-2.false
      | in_default-via-in_default w ↦ check_later w.in_default.not-Start (λ e. absurd (w.in_default.not-Read e)) c.args.j c.if-j-eq0-2.false
    ]
