-- What is known before any line.
use mathlib.Core.Path.{◌≡◌, refl}
use mathlib.Core.Bool.{false}
use Rattle.rule_declarations.specs.State.{start_state}
use Rattle.rule_declarations.specs.declared.State.{State}
use Rattle.rule_texts.specs.Answers.{start_known}

pub start_is : (st : State) → st ≡ start_state → record { state = st; stmts = 0; nodes = 0; ended = false; main = 0 } ≡ start_known
unfolding start_known
start_is st e = rw e refl
