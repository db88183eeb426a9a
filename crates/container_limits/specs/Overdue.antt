-- What is overdue in a tree (TS-0001, 9.6.1.3.2).
pub use Rattle.tree_model.specs.Tree.{overdue_numbers}
