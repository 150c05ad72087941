-- A load and a store are answered by what is owed, and a removal by nothing.
use Rattle.comp_graph.specs.Games.{game_of}
use Rattle.play_files.specs.Tidying.{following_of}
use Rattle.play_files.proofs.Answering.{load_of_move, store_of_move, drop_answered}
use Rattle.play_files.proofs.follower.Follower.answer.Goals as goal

pub returns-in-Load-clause-answers : goal.returns-in-Load-clause-answers
returns-in-Load-clause-answers c =
    load_of_move (game_of c.args.game.now) (following_of c.args.self.now) (following_of c.load.new.self) c.args.mv c.in-Load.v c.in-Load.is c.requires.is_move
    (c.load.ensures.answers (game_of c.args.game.now) c.requires.follows)

pub returns-in-Store-clause-answers : goal.returns-in-Store-clause-answers
returns-in-Store-clause-answers c =
    store_of_move (game_of c.args.game.now) (following_of c.args.self.now) (following_of c.store.new.self) c.args.mv c.in-Store.v c.in-Store.is c.requires.is_move
    (c.store.ensures.answers (game_of c.args.game.now) c.requires.follows)

pub returns-in-DropRed-clause-answers : goal.returns-in-DropRed-clause-answers
returns-in-DropRed-clause-answers c = drop_answered (game_of c.args.game.now) (following_of c.args.self.now) c.requires.follows c.args.mv c.in-DropRed.is
