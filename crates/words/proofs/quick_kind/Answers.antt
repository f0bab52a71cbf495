use Rattle.std.proofs.Common.{arith, refl}
use Rattle.words.specs.WordLaws.{three_told, four_told}
use Rattle.words.proofs.quick_kind.Goals as goal

pub returns-then-w-quad_of : goal.returns-then-w-quad_of
returns-then-w-quad_of c = three_told c.quad-w.ensures (omega arith) c.quad_of.ensures.bytes c.quad_of.ensures.is c.if-w-quad_of.true refl refl refl refl

pub returns-then-w-quad_of-2 : goal.returns-then-w-quad_of-2
returns-then-w-quad_of-2 c = three_told c.quad-w.ensures (omega arith) c.quad_of-2.ensures.bytes c.quad_of-2.ensures.is c.if-w-quad_of-2.true refl refl refl refl

pub returns-then-s-at-eq32 : goal.returns-then-s-at-eq32
returns-then-s-at-eq32 c = four_told c.quad-w.ensures (omega arith) c.quad_of-3.ensures.bytes c.quad_of-3.ensures.is c.if-w-quad_of-3.true (omega arith) c.if-s-at-eq32.true refl refl refl refl
