-- The answers that a value of the code holds.
use Rattle.std.specs.Prelude.{List, take, ℤ}
use Rattle.serial.specs.declared.readings.Answers.{Answers}
use Rattle.serial.specs.declared.readings.Readings.{Readings}

abbrev pub listed : Answers → List ℤ
listed a = take a.len a.items

abbrev pub answers_of : Readings → List ℤ
answers_of r = listed r.answers
