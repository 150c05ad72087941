-- How contracts see the inputs and the outputs of a graph that is made.
use Rattle.kernel_walk.specs.SetElements.{elements}
use Rattle.three_address.specs.declared.inputs.Inputs.{Inputs}
use Rattle.three_address.specs.declared.outputs.Outputs.{Outputs}
use Rattle.three_address.specs.Lowered.{Entering, Leaving}

-- the elements that are set, the nodes, and the labels of the inputs
abbrev pub entering : Inputs → Entering
entering i = ((elements i.written, i.nodes.items), i.names.items)

-- the output elements, and the nodes
abbrev pub leaving : Outputs → Leaving
leaving o = (o.found.items, o.nodes.items)
