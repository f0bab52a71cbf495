use Rattle.std.proofs.Common.{◌≡◌, w32, to_z, of_z, to_z-of_z, ◌∙◌, add-zero, arith}
use Rattle.put.specs.PutLaws.{put_more, field_then}
use Rattle.machine.specs.Report.{logged_value}
use Rattle.report_steps.specs.StepLaws.{short, fields_short}
use Rattle.report_steps.proofs.put_step_fields.Goals as goal

pub logged_value-v-requires : goal.logged_value-v-requires
logged_value-v-requires c = c.requires.1

pub put_value-requires : goal.put_value-requires
put_value-requires c = omega (arith, c.requires.0, c.put_size-a.ensures.put.few, c.put_size-a.ensures.put.next, c.put_count-b.ensures.put.few, c.put_count-b.ensures.put.next, c.put_count-c.ensures.put.few, c.put_count-c.ensures.put.next, c.put_count-d.ensures.put.few, c.put_count-d.ensures.put.next, c.put_count-e.ensures.put.few, c.put_count-e.ensures.put.next)

pub returns : goal.returns
returns c = let v = c.logged_value-v in
    let e : to_z w32 (of_z w32 v.result) ≡ logged_value c.args.log.now c.args.j = to_z-of_z {w = w32} (record { sfits = v.type_inv }) ∙ v.ensures in record {
      printed = rw add-zero (put_more (omega arith)
          (field_then (short c.args.i (omega (arith, c.requires.2)) c.put_size-a.ensures)
          (field_then c.put_count-b.ensures (field_then c.put_count-c.ensures (field_then c.put_count-d.ensures (field_then c.put_count-e.ensures
          (rw e at c.put_value.ensures)))))));
      short = λ h. fields_short c.args.i c.args.log.now c.args.j c.requires.2 (rw e at c.put_value.ensures.few) h;
    }
