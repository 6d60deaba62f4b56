-- The machine, readings, and what is claimed of them.
pub mod Held
pub mod Goes
pub mod Closing
pub mod Leaves
pub mod Shown
pub mod Steps
-- Expressions at their places.
pub mod Levels
pub mod Expressions
pub mod Spelled
-- A production that passes a test has its claim.
pub mod Singles
pub mod Chunks
pub mod Piles
pub mod Laid
pub mod Advance
pub mod Firsts
pub mod Moves
pub mod Sound
pub mod Tested
-- The productions of expressions that are proved one by one.
pub mod KeptTrees
pub mod DivisionsAndCalls
pub mod IntegerBases
pub mod TypedNumbers
pub mod NewExpressions
-- The others that are.
pub mod HookPaths
pub mod HookDeclarations
pub mod Parameters
pub mod LeftOut
pub mod FieldHooks
pub mod Attributes
pub mod ElseBranches
pub mod IfStatements
pub mod Declarations
pub mod SpecialAlternatives
-- All productions together, and texts.
pub mod Machine
pub mod AlikeTexts
pub mod TextReadings
pub mod Productions
pub mod Placeless
pub mod Tells
pub mod ToldWords
pub mod FormedTrees
pub mod FormedModules
pub mod PlacedWords
pub mod Canonical
-- What a text and its canonical text have in common, read as one tree.
pub mod HeardWords
pub mod Shapes
pub mod ShapeRuns
pub mod ClosedTrees
pub mod HeardTokens
pub mod StandingShapes
pub mod KeptWords
