use Rattle.std.proofs.Common.{sym}
use Rattle.window_cert.proofs.Listed.{item_in}
use Rattle.window_cert.proofs.writing.add_windows.Goals as goal

pub add_window-requires-clause-renamings : goal.add_window-requires-clause-renamings
add_window-requires-clause-renamings c =
    let w = c.window-item.result in
    c.requires.renamings w (item_in w w c.loop-window.window-index c.args.windows.now c.loop-window-test.true (sym c.window-item.is))

pub add_window-requires-clause-rows : goal.add_window-requires-clause-rows
add_window-requires-clause-rows c =
    let w = c.window-item.result in
    c.requires.rows w (item_in w w c.loop-window.window-index c.args.windows.now c.loop-window-test.true (sym c.window-item.is))
