pub mod Answer
pub mod NodesLaws
pub mod ProcLaws
