use Rattle.window_laws.proofs.OfGame.{whole_is_game}
use Rattle.window_laws.proofs.WholeWindow.{whole_is_window, whole_is_paid}
use Rattle.window_laws.proofs.laws.whole_is_window.Goals as goal

pub returns-clause-window : goal.returns-clause-window
returns-clause-window c = whole_is_window

pub returns-clause-paid : goal.returns-clause-paid
returns-clause-paid c = whole_is_paid

pub returns-clause-game : goal.returns-clause-game
returns-clause-game c = whole_is_game
