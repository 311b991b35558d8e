-- The numbers of the refusals.
use Rattle.std.specs.Prelude.{ℕ}
use Rattle.book.specs.declared.refusal.Refusal.{Refusal}
use Rattle.book.specs.declared.refusal.Refusal.TheVariants.{TooLarge, ShortBuffer, FewRows, NoOrder, LongLine, NoForm, UnknownCall, WrongArguments, OutOfRange, Over63, NotDeclared, AlreadyThere, CallerWaits, NotWaiting, NotHolder, HoldsIt, HeldByOther, HoldsFurther, InUse, HelperAsItIs, WouldRing}

-- the number by which a refusal is known
abbrev pub number_of : Refusal → ℕ
number_of TooLarge = 1
number_of ShortBuffer = 2
number_of FewRows = 3
number_of NoOrder = 4
number_of LongLine = 5
number_of NoForm = 6
number_of UnknownCall = 7
number_of WrongArguments = 8
number_of OutOfRange = 9
number_of Over63 = 10
number_of NotDeclared = 11
number_of AlreadyThere = 12
number_of CallerWaits = 13
number_of NotWaiting = 14
number_of NotHolder = 15
number_of HoldsIt = 16
number_of HeldByOther = 17
number_of HoldsFurther = 18
number_of InUse = 19
number_of HelperAsItIs = 20
number_of WouldRing = 21
