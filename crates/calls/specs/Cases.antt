-- 01, group 10 and 'Codes and the order of checks': the code and count for each case of an injection.
use Rattle.rules.specs.Outcome.{EINVAL, EBUSY}
use Rattle.answers.specs.declared.Answer.{Answer}
use Rattle.adapters.specs.declared.Injection.{Injection}
use Rattle.adapters.specs.declared.Injection.TheVariants.{NoAdapter, Dropped, Full, Appended}
use Rattle.answers.specs.Answers.{answered}

abbrev pub answer_for : Injection → Answer
answer_for NoAdapter = answered EINVAL 0
answer_for Dropped = answered 0 0
answer_for Full = answered EBUSY 0
answer_for (Appended isc) = answered 0 1
