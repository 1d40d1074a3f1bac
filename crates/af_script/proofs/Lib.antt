pub mod LineByLine
pub mod StatementLemmas
pub mod PrintLemmas
pub mod TapeRunLemmas
