-- Which texts are accepted (this project's convention): those that stand for a kernel whose run has no fault.
use Rattle.std.specs.Prelude.{◌≡◌, ℕ, List, Ok}
use Rattle.comp_graph.specs.Graphs.{GraphParts}
use Rattle.kernel_ast.specs.KernelGraph.{graph_of}
use Rattle.kernel_ast.specs.KernelParts.{KernelParts}
use Rattle.kernel_parser.specs.KernelTexts.{Reads}

-- The text is accepted: it stands for this kernel, and the kernel has this graph.
pub record IsAccepted (text : List ℕ) (kernel : KernelParts) (graph : GraphParts) : Type 0 where
  pub reads : Reads text kernel
  pub evaluated : graph_of kernel ≡ Ok graph
