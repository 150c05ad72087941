-- What contracts see of the lists of a `Graph`.
use Rattle.comp_graph.specs.declared.graph_lists.GraphLists.TheInside.{Inside}
use Rattle.comp_graph.specs.Graphs.{GraphParts}

-- the fields, with each vector as its list
abbrev pub parts : Inside → GraphParts
parts a = record { title = a.title; nodes = a.nodes.items; names = a.names.items; outputs = a.outputs.items }
