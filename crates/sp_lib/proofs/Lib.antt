pub mod DigitsRead
pub mod Fronts
pub mod Popped
pub mod BytesBegun
pub mod TextsDecoded
pub mod PartsPushed
pub mod GroupsDecoded
pub mod Base64Rows
