-- The two orders there are.
use Rattle.std.specs.Prelude.{Bool, cond, ◌==◌, nat_le, nat_lt}
use Rattle.urgency.specs.declared.grade.Grade.{Grade}
use Rattle.urgency.specs.declared.deadline.Deadline.{Deadline}

-- the smaller grade is the more urgent
abbrev pub by_grade : Grade → Grade → Bool
by_grade a b = nat_le a.value b.value

-- the earlier tick is the more urgent, and at equal ticks the greater class
abbrev pub by_deadline : Deadline → Deadline → Bool
by_deadline a b = cond (a.tick == b.tick) (nat_le b.class a.class) (nat_lt a.tick b.tick)
